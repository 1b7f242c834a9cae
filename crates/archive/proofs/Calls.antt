-- What the calls answer and leave.
pub mod Empty
pub mod Fetch
pub mod Entry
pub mod Restore
pub mod Capture
pub mod CaptureWrites
pub mod AfterCapture
pub mod Limits
