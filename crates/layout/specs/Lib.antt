pub mod PartBytes
pub mod HeaderBytes
pub mod CheckBytes
pub mod FileTypeBytes
