-- The laws of sets, and the proofs of the theorems.
pub mod JudgedFirst
pub mod Pairs
pub mod Answers
pub mod SetMeant
pub mod SetLeaves
pub mod SetExamples
