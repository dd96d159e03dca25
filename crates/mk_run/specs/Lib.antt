-- The definitions of mk_run, by their files.
pub mod Outcomes
pub mod Ends
pub mod Laws
pub mod Ran
pub mod inner
