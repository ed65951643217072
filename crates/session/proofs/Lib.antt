pub mod Answering
mod CodesOf
pub mod GivingBack
pub mod Once
pub mod Opening
mod Passing
mod Servicing
pub mod Serving
pub mod Total
pub mod Keeping
