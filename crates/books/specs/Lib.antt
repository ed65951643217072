pub mod Books
pub mod Serving
pub mod Walked
