pub mod Limits
pub mod Layout
pub mod Rows
pub mod Laws
