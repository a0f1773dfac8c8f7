pub mod Bounds
pub mod Lifts
pub mod Begins
