pub mod Inner
pub mod Blanks
