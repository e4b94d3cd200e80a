-- Computed examples of calls of several tasks and of parked contexts.
pub mod TaskExamples
pub mod ParkedExamples
