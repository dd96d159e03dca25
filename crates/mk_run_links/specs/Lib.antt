-- The definitions of mk_run_links, by their files.
pub mod Places
pub mod Entries
pub mod Halts
pub mod Seen
pub mod Crews
pub mod inner
