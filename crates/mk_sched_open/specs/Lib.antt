-- The definitions of mk_sched_open, by their files.
pub mod Turns
pub mod Sims
pub mod inner
