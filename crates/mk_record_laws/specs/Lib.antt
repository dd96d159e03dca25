-- The definitions of mk_record_laws, by their files.
pub mod Again
pub mod Readable
pub mod Sound
pub mod inner
