pub mod Tables
pub mod Laws
pub mod Places
pub mod Tested
pub mod Mount
pub mod Bench
pub mod Setting
