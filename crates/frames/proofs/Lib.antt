pub mod Appending
pub mod Decoding
mod Digits
