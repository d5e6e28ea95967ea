pub mod Copied
pub mod Numbers
