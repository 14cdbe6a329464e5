pub mod Counts
pub mod Exported
pub mod Followed
pub mod Input
pub mod Members
pub mod Tops
