pub mod Adds
pub mod Bare
pub mod Keys
pub mod Listed
pub mod Small
pub mod Spelled
