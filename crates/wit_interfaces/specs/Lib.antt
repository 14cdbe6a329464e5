pub mod InterfaceEncoders
