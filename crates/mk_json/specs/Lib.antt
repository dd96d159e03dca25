-- The definitions of mk_json, by their files.
pub mod Parsed
pub mod inner
