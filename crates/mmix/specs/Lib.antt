-- What the library's contracts cite beside the model.
pub mod Entries
