pub mod Raises
mod PagesSeen
mod PagesStay
mod Walks
pub mod Raised
mod Past
pub mod Only
mod Found
mod Joined
pub mod Marked
mod Records
pub mod Theorems
