-- The lemmas of mk_buffers_log, by their files.
pub mod Places
pub mod Walking
pub mod Latest
pub mod Fitting
pub mod Ascending
pub mod Answering
pub mod Keeping
pub mod Sparing
