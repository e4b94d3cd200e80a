-- The laws of this crate's definitions, for its proofs and for those of the crates above it.
pub mod Prelude
pub mod SaveStores
pub mod UnsaveLoads
pub mod ContextPlaces
pub mod LocateAnswers
pub mod SaveUnsaveAnswers
pub mod ReaderAnswers
