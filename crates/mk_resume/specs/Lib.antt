-- The definitions of mk_resume, by their files.
pub mod Laws
pub mod Resumed
pub mod Showings
pub mod inner
