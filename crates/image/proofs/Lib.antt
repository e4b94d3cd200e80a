-- The laws of the image.
pub mod Prelude
pub mod Coded
pub mod Codec
pub mod RoundTrips
pub mod Fronts
pub mod FewCoded
pub mod ImageExamples
