pub mod Setups
pub mod Views
pub mod Replies
pub mod Backs
