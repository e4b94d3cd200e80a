-- What this crate's contracts cite beside the model.
pub mod Counts
