pub mod Define
pub mod Reload
pub mod Inner
pub mod Examples
