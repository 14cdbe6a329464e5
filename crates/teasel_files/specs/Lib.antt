pub mod AllTell
pub mod Contents
pub mod Delivered
pub mod Folders
pub mod Readings
