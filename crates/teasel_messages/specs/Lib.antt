pub mod Looks
pub mod Reasons
