-- The definitions of mk_pace, by their files.
pub mod inner
