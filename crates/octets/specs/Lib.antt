pub mod BigEndian
pub mod BigEndianLaws
pub mod Overwrite
pub mod OverwriteLaws
pub mod Part
