-- What is claimed of the C functions, as a host meets them, in the order in which to read it: one call, lists of calls on one state, points to return to; lists of
-- calls with several tasks, that they are lists of turns, demand 3 and a parked context wherever in these, what is hidden; a store moved by lines.
pub mod OneCall
pub mod Calls
pub mod CallsLeave
pub mod PointCalls
pub mod TaskCalls
pub mod TaskLists
pub mod OneState
pub mod AllLent
pub mod ParkedCalls
pub mod AnywhereCalls
pub mod OwnCalls
pub mod ParkedAnywhereCalls
pub mod HiddenCalls
pub mod Transfer
