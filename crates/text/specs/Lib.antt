pub mod Laying
pub mod Decimal
pub mod Field
pub mod Examples
