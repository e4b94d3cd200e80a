-- What the bench program's language is; then what contracts of private functions cite.
pub mod Line
pub mod Script
pub mod Reading
pub mod Writing
