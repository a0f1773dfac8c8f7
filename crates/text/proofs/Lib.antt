mod Cutting
mod Rounding
mod Runs
pub mod Reading
pub mod Storing
