pub mod Forms
pub mod Law
pub mod Examples
