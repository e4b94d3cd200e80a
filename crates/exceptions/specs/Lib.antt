-- What the contracts of trips, traps and exceptions cite beside the model; `Told` is the whole instruction layer's.
pub mod Told
pub mod Interrupts
