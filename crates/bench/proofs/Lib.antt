-- What the proofs share.
pub mod Prelude
