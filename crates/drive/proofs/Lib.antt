pub mod Orders
pub mod Indices
pub mod Frames
pub mod Filling
pub mod Maps
