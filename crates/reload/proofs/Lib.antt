pub mod Lists
pub mod Parts
pub mod Standing
pub mod Reloading
pub mod Held
pub mod History
