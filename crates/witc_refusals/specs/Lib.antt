pub mod Messages
pub mod Numbers
