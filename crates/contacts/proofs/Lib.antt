pub mod WordLaws
pub mod KillLaws
mod Masks
