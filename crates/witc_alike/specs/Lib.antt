pub mod Carried
pub mod Kinds
pub mod Likeness
