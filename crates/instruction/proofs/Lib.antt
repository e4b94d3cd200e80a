-- The laws of this crate's definitions, for its proofs and for those of the crates above it.
pub mod Prelude
pub mod EarlyRefusals
pub mod ClaimTakenBack
pub mod RunTurned
