pub mod UpTos
pub mod Counting
pub mod Reporting
pub mod Ratio
pub mod Paces
pub mod Gears
pub mod Bounds
pub mod Quotients
