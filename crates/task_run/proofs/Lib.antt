-- The laws of one task's turn: foreign octabytes, the part as a window of its own, plans and runs on it.
pub mod Prelude
pub mod PartShapes
pub mod View
pub mod ViewRun
pub mod Asks
pub mod AsksUnsave
pub mod AsksArms
pub mod TurnRun
pub mod TurnIn
