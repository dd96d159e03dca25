-- The definitions of mk_drafts, by their files.
pub mod Begun
pub mod Finished
