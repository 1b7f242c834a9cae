pub mod Lists
pub mod Bits
pub mod Inner
pub mod Frame
pub mod Element
pub mod Examples
