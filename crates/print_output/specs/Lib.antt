pub mod OutputCall
pub mod Render
pub mod Expansion
