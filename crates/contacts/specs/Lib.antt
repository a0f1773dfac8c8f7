pub mod Words
pub mod Kills
