pub mod Limits
pub mod Motors
pub mod Rules
pub mod Banks
pub mod Laws
