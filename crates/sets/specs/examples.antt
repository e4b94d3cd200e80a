-- Computed examples of sets.
pub mod SetExamples
