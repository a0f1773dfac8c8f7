pub mod Fronts
pub mod Turns
pub mod Judging
