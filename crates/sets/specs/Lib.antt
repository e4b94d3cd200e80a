-- What the contracts of a set cite, and what is claimed of one.
pub mod Sets
pub mod SetMeant
pub mod Judged
pub mod Answer
-- computed examples
pub mod examples
