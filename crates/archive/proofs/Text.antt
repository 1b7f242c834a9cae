-- The text of a listing: digits, lines, and how long they are.
pub mod Lines
pub mod Sizes
pub mod Within
