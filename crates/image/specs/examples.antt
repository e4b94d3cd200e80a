-- Computed examples of the image.
pub mod ImageExamples
