pub mod Raises
pub mod Pages
pub mod Records
pub mod Marked
