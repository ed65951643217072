pub mod Fits
pub mod Changes
pub mod Clean
pub mod Laws
pub mod Sound
pub mod Stamps
pub mod CountedRows
