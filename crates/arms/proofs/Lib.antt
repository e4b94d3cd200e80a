-- The laws of this crate's definitions, for its proofs and for those of the crates above it.
pub mod Prelude
pub mod NoMemoryReplies
pub mod PushPopSent
pub mod Keys
pub mod ArmSteps
pub mod ControlArms
pub mod SaveUnsaveSent
pub mod RefusableArms
pub mod ArithmeticArms
pub mod LoadStoreArms
