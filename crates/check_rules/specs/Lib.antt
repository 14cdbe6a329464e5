pub mod Owners
pub mod Members
pub mod PackageNames
pub mod Places
