pub mod Walk
pub mod Inner
pub mod Entries
pub mod Examples
