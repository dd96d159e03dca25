-- The definitions of mk_pace_loop, by their files.
pub mod inner
