-- What the machine's contracts cite beside the model.
pub mod Octas
pub mod Pieces
pub mod Octabytes
pub mod Put
