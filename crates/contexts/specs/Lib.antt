-- What the contracts of saved contexts cite beside the model.
pub mod SaveUnsave
pub mod ContextWork
