pub mod Packages
pub mod Places
