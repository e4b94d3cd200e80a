-- The laws of this crate's functions, for their proofs; and of opcodes, for those of the crates above it.
mod Counts
mod Fields
mod Conditions
mod Operands
pub mod Groups
