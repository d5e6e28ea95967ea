pub mod Matched
pub mod MatchedLaws
