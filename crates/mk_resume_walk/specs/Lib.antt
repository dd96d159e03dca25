-- The definitions of mk_resume_walk, by their files.
pub mod Index
pub mod Laws
pub mod Talks
pub mod Walks
