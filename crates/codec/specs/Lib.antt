pub mod Codec
pub mod Parts
pub mod Places
pub mod Whole
pub mod Reading
pub mod Examples
pub mod Stops
pub mod Faults
