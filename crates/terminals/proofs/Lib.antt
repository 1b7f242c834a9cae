pub mod Places
pub mod Storing
pub mod Fields
pub mod Setting
pub mod Bytes
pub mod Texts
pub mod Steps
pub mod Grammar
