-- The lemmas of mosaikrun_words, by their files.
pub mod Gives
pub mod Groups
pub mod Requested
pub mod Spelled
