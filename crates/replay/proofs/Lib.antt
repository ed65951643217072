mod Feeding
mod Opened
mod Replaying
