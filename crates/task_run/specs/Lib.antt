-- What the contracts of one task's turn cite beside model and task_model.
pub mod RunIn
pub mod Ask
