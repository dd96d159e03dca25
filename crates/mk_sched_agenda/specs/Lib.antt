-- The definitions of mk_sched_agenda, by their files.
pub mod Outlets
pub mod Dues
pub mod Mirrors
pub mod Endings
pub mod inner
