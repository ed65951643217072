pub mod Laws
mod Base
mod Calls
mod EdgeChanges
mod Answers
mod Turning
mod Stands
mod Effects
mod Keyed
mod Marked
pub mod Pasts
pub mod Orders
pub mod Theorems
