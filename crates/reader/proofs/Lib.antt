pub mod Elements
pub mod Runs
pub mod Walked
pub mod Alike
pub mod Entries
pub mod Parts
pub mod Groups
pub mod Rows
