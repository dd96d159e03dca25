-- The definitions of mk_record_write, by their files.
pub mod Writable
pub mod inner
