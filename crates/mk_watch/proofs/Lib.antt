-- The lemmas of mk_watch, by their files.
mod Gathering
mod Shared
pub mod Whole
mod Written
