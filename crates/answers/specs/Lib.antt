pub mod Figures
pub mod Records
