pub mod Hex
pub mod Lines
pub mod Writing
pub mod Printing
pub mod Shows
pub mod Examples
