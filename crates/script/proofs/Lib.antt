-- The theorems of this crate, and the laws of its definitions.
pub mod Prelude
pub mod Sample
pub mod Digits
pub mod Numbers
pub mod Matching
pub mod Turns
pub mod Forms
pub mod Grammar
pub mod Carries
pub mod Bounds
pub mod Buffers
