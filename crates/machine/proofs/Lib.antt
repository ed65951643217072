pub mod Clearing
pub mod Extending
mod Starts
pub mod Stages
pub mod Busy
pub mod SeveralTurns
pub mod ClockCells
pub mod Finishing
pub mod Counting
mod Spent
mod PageCounts
