-- The definitions of mk_sched, by their files.
pub mod Cores
pub mod Answers
pub mod Holding
pub mod inner
