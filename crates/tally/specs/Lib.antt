pub mod Tally
pub mod Inner
pub mod Examples
