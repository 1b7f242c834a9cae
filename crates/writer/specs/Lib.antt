pub mod Write
pub mod Inner
pub mod Examples
