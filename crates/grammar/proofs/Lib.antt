pub mod Codes
pub mod Arrays
pub mod Digits
pub mod Rows
pub mod Sizes
pub mod Parts
pub mod Steps
pub mod Windows
