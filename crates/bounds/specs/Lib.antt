pub mod Bounds
pub mod Worked
pub mod Counted
pub mod Most
pub mod Surveys
