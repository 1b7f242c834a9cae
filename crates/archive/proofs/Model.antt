-- The archive as a model: keys, a body and its entry, the rules, a PDU put in its place.
pub mod Keys
pub mod Bodies
pub mod Rules
pub mod Checked
pub mod Put
pub mod Found
