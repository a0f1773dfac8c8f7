pub mod Views
pub mod Journals
