pub mod Histories
pub mod Links
pub mod Turns
pub mod TurnSteps
pub mod Steps
pub mod Times
pub mod Kept
pub mod Heads
mod Goods
mod Looks
mod Settled
pub mod Swaps
mod Own
mod After
pub mod Opens
pub mod Knows
pub mod Events
pub mod EdgeEvents
pub mod Ends
pub mod Decides
pub mod Births
mod MarkLaws
pub mod MarkSound
mod Carries
pub mod Once
pub mod Sights
pub mod VertexFinds
pub mod EdgeFinds
pub mod EdgeMisses
pub mod Starts
pub mod Settling
mod Worked
pub mod Theorems
