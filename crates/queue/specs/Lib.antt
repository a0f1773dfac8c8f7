pub mod Ring
pub mod Entries
pub mod Views
pub mod Sound
pub mod History
pub mod Account
pub mod Samples
