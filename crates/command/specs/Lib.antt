pub mod Requests
pub mod Fields
pub mod Operands
pub mod Mount
pub mod Bench
pub mod Sets
pub mod Reading
