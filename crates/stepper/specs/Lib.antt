pub mod Runs
pub mod Asked
pub mod Lent
pub mod Promised
