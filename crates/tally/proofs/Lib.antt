pub mod Parts
pub mod Entries
pub mod Narrow
pub mod Alike
pub mod Digits
pub mod Unused
pub mod Listed
pub mod Words
