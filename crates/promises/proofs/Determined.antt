-- Each public function has one possible outcome. One file for each crate.
pub mod Bits
pub mod Codec
pub mod Grammar
pub mod Reader
pub mod Walk
pub mod Tally
pub mod Writer
pub mod Judging
pub mod Rules
pub mod Archive
pub mod Words
pub mod Barring
pub mod InPlace
pub mod Reload
pub mod Boc
pub mod Text
pub mod Terminals
