-- The lemmas of mk_sched_agenda, by their files.
pub mod Counting
pub mod Queued
pub mod Tabled
pub mod Tidying
pub mod Rows
pub mod Begins
pub mod Mirroring
pub mod Ending
pub mod Ended
