-- What the bench program's functions on slices cite.
pub mod Answer
