-- Laws of a text carried through.
pub mod Prelude
pub mod Reach
