pub mod Hex
pub mod Frames
pub mod Replies
pub mod Areas
pub mod Cases
