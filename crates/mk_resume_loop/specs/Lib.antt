-- The definitions of mk_resume_loop, by their files.
pub mod Resumed
pub mod inner
