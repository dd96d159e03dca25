-- The definitions of mk_run_local, by their files.
pub mod Seen
pub mod Calls
pub mod Made
pub mod Laws
pub mod inner
