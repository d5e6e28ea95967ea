pub mod FileType
pub mod FileTypeLaws
pub mod ReadFileType
