pub mod Words
pub mod Numbers
pub mod Drives
pub mod Scripts
pub mod Examples
