-- The definitions of mosaikrun_watch, by their files.
pub mod Watched
