pub mod Mapped
pub mod Model
pub mod Bytes
pub mod Calls
pub mod Text
pub mod History
