-- Several tasks on one machine, in the order in which to read it: definitions, then what is claimed of them; proofs/ has the proofs.
pub mod Tasks
pub mod Schedule
pub mod Call
pub mod TaskDemand
pub mod TasksMeant
pub mod Parked
pub mod Anywhere
pub mod ParkedAnywhere
pub mod Lent
pub mod CallApart
-- computed examples
pub mod examples
