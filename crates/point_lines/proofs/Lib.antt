-- The theorems of this crate, and the laws of its definitions.
pub mod Prelude
pub mod Forms
pub mod Formed
pub mod Padded
pub mod Held
pub mod Moved
pub mod Turns
pub mod Splits
pub mod Marks
pub mod LineMarks
pub mod Hex
pub mod HexValues
pub mod LinePoint
pub mod Renewed
pub mod PointLine
pub mod LineExamples
