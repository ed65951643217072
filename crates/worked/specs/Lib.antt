pub mod Openings
pub mod Plays
pub mod Table
