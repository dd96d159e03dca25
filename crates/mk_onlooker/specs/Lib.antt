-- The definitions of mk_onlooker, by their files.
pub mod Showings
