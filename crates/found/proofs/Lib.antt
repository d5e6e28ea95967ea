pub mod ChunkPlaces
pub mod Expansions
pub mod FoundExpands
pub mod FoundSame
pub mod HeaderCost
pub mod Held
pub mod HeldInFile
pub mod Shortest
