pub mod Lines
pub mod Tallies
pub mod Tellings
pub mod Reports
