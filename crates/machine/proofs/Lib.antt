-- The laws of this crate's definitions, for its proofs and for those of the crates above it.
pub mod RegisterRanges
pub mod RunTest
pub mod RunRefused
pub mod Octas
pub mod BothOctas
pub mod SlidRanges
pub mod PutRegisters
pub mod OctabyteRuns
pub mod WindowRuns
