pub mod Laid
pub mod Needed
pub mod Outcome
pub mod Place
pub mod ToBox
pub mod WrittenLaws
