pub mod Size
pub mod Header
pub mod Boxed
pub mod BoxesIn
pub mod ReadBack
pub mod Walk
pub mod WalkEnds
pub mod Find
