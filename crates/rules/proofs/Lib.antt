pub mod Search
pub mod Destinations
pub mod Rules
pub mod Chains
