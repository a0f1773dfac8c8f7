pub mod Axes
pub mod Health
pub mod Range
pub mod Drive
pub mod Laws
