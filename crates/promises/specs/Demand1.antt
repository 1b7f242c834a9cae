-- Demand 1: every call ends, for every input, with its answer or with a refusal number; a refused call changes no byte. One file for each call.
pub mod Reading
pub mod Writing
pub mod Empty
pub mod Capture
pub mod Entry
pub mod Restore
pub mod Reload
pub mod Listing
pub mod Decision
