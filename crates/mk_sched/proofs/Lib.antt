-- The lemmas of mk_sched, by their files.
pub mod Standing
pub mod GivingUp
pub mod Asked
pub mod Judged
pub mod Arrived
pub mod TurnEnds
pub mod Pushed
