pub mod Decimals
pub mod Copies
pub mod Fields
pub mod ReadBack
