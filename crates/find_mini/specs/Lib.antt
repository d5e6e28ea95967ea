pub mod BackToMini
pub mod Defaults
pub mod Finds
pub mod Restored
pub mod Restores
