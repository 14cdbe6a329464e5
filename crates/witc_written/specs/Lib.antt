pub mod Carried
pub mod Worlds
pub mod Written
