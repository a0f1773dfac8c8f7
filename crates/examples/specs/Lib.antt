pub mod Played
pub mod Examples
