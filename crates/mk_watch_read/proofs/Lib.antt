-- The lemmas of mk_watch_read, by their files.
mod Gathered
mod Inside
pub mod Named
