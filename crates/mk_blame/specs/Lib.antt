-- The definitions of mk_blame, by their files.
pub mod Talks
pub mod Verdicts
pub mod Written
pub mod inner
