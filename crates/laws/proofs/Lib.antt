pub mod Puts
pub mod Pages
mod Follows
pub mod Entries
pub mod Owned
pub mod Heads
pub mod Fills
pub mod Touched
pub mod Stays
mod Flows
pub mod Served
mod Grows
mod Counts
mod LinkTurns
mod Keeps
pub mod Taken
pub mod Rests
mod Begins
mod Steps
pub mod Clean
pub mod Runs
mod Places
mod Stamped
mod Moments
pub mod StampRuns
mod CountedRows
