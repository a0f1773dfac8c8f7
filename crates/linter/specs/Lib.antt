pub mod Verdicts
pub mod Reports
