pub mod Carried
pub mod ReadFile
pub mod ReadItems
