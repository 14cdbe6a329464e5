pub mod GivenTypes
pub mod Heads
pub mod Members
