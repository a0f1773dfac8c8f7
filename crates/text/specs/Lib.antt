pub mod Blocks
pub mod Decimals
pub mod Numbers
pub mod Scaling
pub mod Typed
pub mod Writing
