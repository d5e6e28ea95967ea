pub mod Again
pub mod Bytes
pub mod Entries
pub mod File
pub mod Found
pub mod Items
pub mod References
pub mod Slots
