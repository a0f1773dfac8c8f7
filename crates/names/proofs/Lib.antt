pub mod ByPlace
pub mod Lawful
pub mod Rests
