-- The definitions of mk_record_read, by their files.
pub mod Entries
pub mod Fields
pub mod Lines
pub mod Reading
pub mod Seen
pub mod Steps
pub mod Texts
pub mod inner
