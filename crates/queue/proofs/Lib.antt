mod Turns
mod Waits
mod Stretches
mod Loops
mod Tells
pub mod Laws
