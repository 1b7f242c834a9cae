pub mod Request
pub mod Matching
pub mod Rule
pub mod Inner
pub mod ProfileCalls
pub mod Examples
