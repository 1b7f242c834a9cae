-- Worked cases that antt computes, of every PDU.
pub mod Layouts
pub mod Longest
pub mod Bytes
pub mod Refusals
pub mod Zeros
