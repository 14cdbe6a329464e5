pub mod Answers
pub mod Kept
pub mod Outcomes
pub mod Texts
