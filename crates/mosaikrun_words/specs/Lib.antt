-- The definitions of mosaikrun_words, by their files.
pub mod Numbers
pub mod Requests
pub mod Words
pub mod inner
