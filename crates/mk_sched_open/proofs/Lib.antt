-- The lemmas of mk_sched_open, by their files.
pub mod OneSim
pub mod Every
pub mod Messages
