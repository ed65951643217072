mod Copies
mod Counting
mod Labels
mod Writing
mod Spreading
mod Listing
mod Searching
mod Fixed
mod Staying
mod Distances
mod OneOrder
pub mod Worked
