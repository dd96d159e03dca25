-- The definitions of mk_meta, by their files.
pub mod Metadata
pub mod inner
