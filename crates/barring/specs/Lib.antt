pub mod Decision
pub mod Decide
pub mod Inner
