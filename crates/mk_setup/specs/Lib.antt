-- The definitions of mk_setup, by their files.
pub mod Answers
pub mod Asking
pub mod Handshakes
pub mod Kept
pub mod Laws
pub mod Ranked
pub mod Replies
pub mod Requests
pub mod Seen
pub mod inner
