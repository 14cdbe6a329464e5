pub mod Carried
pub mod Encodings
pub mod Modules
pub mod Said
