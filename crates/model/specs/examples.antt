-- Computed examples: what definitions give at chosen arguments. proofs/Bench, RunExamples and KeptExamples compute them.
pub mod ReaderExamples
pub mod StepExamples
pub mod LoadStoreExamples
pub mod WindowExamples
pub mod RunExamples
pub mod ArithmeticExamples
pub mod ArithmeticStepExamples
pub mod ExceptionExamples
pub mod DepartureExamples
pub mod HiddenExamples
pub mod FieldExamples
pub mod KeptExamples
