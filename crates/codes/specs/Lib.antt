pub mod Codes
pub mod Page
