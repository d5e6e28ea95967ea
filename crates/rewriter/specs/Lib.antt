pub mod Outcome
pub mod Rewritten
pub mod RewrittenLaws
