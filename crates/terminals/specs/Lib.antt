pub mod Refusals
pub mod Layers
pub mod Lines
pub mod Profiles
pub mod Reading
pub mod Answers
pub mod Inner
pub mod Examples
