pub mod Prints
pub mod Shows
pub mod Lines
