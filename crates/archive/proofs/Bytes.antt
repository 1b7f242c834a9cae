-- The bytes of an archive: read entry by entry, checked, read and written back, copied, and spliced by a capture.
pub mod Walking
pub mod Checking
pub mod AsRead
pub mod AsWritten
pub mod Copied
pub mod Split
pub mod Spliced
