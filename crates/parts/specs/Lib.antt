pub mod Kinds
pub mod Bounds
pub mod Views
pub mod Turns
pub mod Conditions
