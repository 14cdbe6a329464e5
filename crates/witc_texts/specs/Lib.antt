pub mod Bindings
pub mod Lines
pub mod Named
pub mod Printed
pub mod Stripped
pub mod Worlds
