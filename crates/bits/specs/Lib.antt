pub mod Bit
pub mod Format
pub mod Near
pub mod Run
pub mod State
pub mod Window
pub mod ReadError
