-- What the contracts of a step and a run cite beside the model.
pub mod StepAnswer
pub mod FetchedArms
