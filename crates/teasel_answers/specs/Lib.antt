pub mod Answers
pub mod Checks
pub mod Forms
pub mod Kinds
pub mod Refusals
pub mod Worlds
