-- The definitions of mk_simapi, by their files.
pub mod Requests
pub mod Replies
pub mod Serving
pub mod Children
pub mod inner
