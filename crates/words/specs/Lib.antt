pub mod Places
pub mod RecordWords
pub mod RequestWords
pub mod Sized
pub mod Inner
pub mod Examples
