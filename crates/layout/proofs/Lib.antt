pub mod Regions
pub mod Inverse
pub mod Owners
