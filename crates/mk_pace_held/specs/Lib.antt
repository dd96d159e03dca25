-- The definitions of mk_pace_held, by their files.
pub mod Firsts
pub mod inner
