mod Branches
mod Loops
mod Barring
pub mod Bounds
