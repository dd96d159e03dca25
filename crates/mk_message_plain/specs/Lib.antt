-- The definitions of mk_message_plain, by their files.
pub mod Plain
pub mod inner
