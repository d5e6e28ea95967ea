pub mod ChunkPlaces
pub mod ExpandsTo
pub mod Expansion
pub mod Found
pub mod Places
