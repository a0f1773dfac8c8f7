pub mod Rows
pub mod Refusals
pub mod Machine
pub mod Controller
pub mod Seen
pub mod Account
pub mod Stances
pub mod Faults
