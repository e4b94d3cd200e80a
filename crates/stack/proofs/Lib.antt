-- The laws of this crate's definitions, for its proofs and for those of the crates above it.
pub mod PushPopRegisters
pub mod Judged
pub mod PassedOctas
pub mod PushPopAnswers
pub mod MovedRegisters
