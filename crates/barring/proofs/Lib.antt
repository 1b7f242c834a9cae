pub mod Decided
pub mod History
