-- The definitions of mk_async, by their files.
pub mod Asked
pub mod Forms
pub mod inner
