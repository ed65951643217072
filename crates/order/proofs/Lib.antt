mod Lists
mod LastBelow
mod Rows
mod Keys
pub mod Moves
pub mod Lives
mod Changes
mod Finds
mod Steps
mod Stampings
mod Replay
mod Numbered
mod Owners
mod Marked
pub mod Raises
pub mod Ends
mod Clean
pub mod Seen
mod Stands
mod Copies
mod Joined
mod Stretches
mod Short
mod TwoCalls
mod Started
mod AfterAdds
mod Through
mod EarlyAnswer
mod EndedRow
mod HiddenEdge
mod Members
pub mod Fitting
