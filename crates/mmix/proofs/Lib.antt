-- The laws of this crate's definitions.
pub mod Prelude
pub mod Entries
pub mod FewStepped
