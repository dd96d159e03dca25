-- The definitions of mk_resume_links, by their files.
pub mod Laws
pub mod Rests
pub mod Running
pub mod Runs
pub mod inner
