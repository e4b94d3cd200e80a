-- Computed examples of lines.
pub mod LineExamples
