-- The laws of rooms and stores, and the proofs of the theorems.
pub mod Rooms
pub mod Stores
pub mod Answers
pub mod Returns
pub mod Leaves
pub mod StoreOrder
