-- What the arms' contracts cite beside the model.
pub mod NoMemoryArms
pub mod Replied
pub mod Arms
