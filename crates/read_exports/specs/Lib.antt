pub mod Interfaces
pub mod Members
