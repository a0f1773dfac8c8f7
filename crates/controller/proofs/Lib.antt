mod Refusing
mod Calls
mod Shorts
mod Backs
pub mod Told
