pub mod Carried
pub mod Encoded
pub mod Merged
pub mod Printed
