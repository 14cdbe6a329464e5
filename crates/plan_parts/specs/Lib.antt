pub mod Agreement
pub mod Functions
pub mod Interfaces
pub mod Kept
pub mod Kinds
pub mod Marks
pub mod Views
