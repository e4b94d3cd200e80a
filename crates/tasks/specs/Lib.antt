-- What the contracts of a call of several tasks cite beside task_model.
pub mod Images
pub mod Lent
pub mod Desks
