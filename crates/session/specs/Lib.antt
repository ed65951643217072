pub mod Sessions
pub mod Kept
pub mod Answers
pub mod Texts
pub mod Served
pub mod Laws
pub mod Feeding
pub mod Service
