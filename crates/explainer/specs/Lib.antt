pub mod Writing
pub mod Words
pub mod Settings
pub mod Readings
pub mod Reports
