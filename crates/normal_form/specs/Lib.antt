pub mod Alike
pub mod NormalForm
pub mod ReadProperties
pub mod ReadRecord
