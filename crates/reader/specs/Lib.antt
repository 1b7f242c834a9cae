pub mod Read
pub mod Words
pub mod Inner
pub mod Zeros
