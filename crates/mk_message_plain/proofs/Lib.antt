-- The lemmas of mk_message_plain, by their files.
mod Bytes
pub mod Members
mod Messages
