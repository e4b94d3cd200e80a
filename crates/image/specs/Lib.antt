-- What the contracts of the state image cite beside the model.
pub mod Image
pub mod Few
-- computed examples
pub mod examples
