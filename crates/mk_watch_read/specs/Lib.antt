-- The definitions of mk_watch_read, by their files.
pub mod Folds
pub mod Rules
pub mod Watches
pub mod inner
