-- The definitions of mk_message, by their files.
pub mod Messages
pub mod Written
pub mod inner
