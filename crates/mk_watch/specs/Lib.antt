-- The definitions of mk_watch, by their files.
pub mod Tables
pub mod Values
pub mod inner
