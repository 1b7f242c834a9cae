-- Each call keeps its promise.
pub mod Reading
pub mod Writing
pub mod Empty
pub mod Capture
pub mod Restore
pub mod Entry
pub mod Reload
pub mod Listing
pub mod Decision
