-- The definitions of mk_buffers_log, by their files.
pub mod Logs
pub mod inner
