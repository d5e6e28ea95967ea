pub mod Defaults
pub mod Finds
pub mod Laws
pub mod Restores
