-- The definitions of mk_record_compare, by their files.
pub mod Differences
pub mod inner
