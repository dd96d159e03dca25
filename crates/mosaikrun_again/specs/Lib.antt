-- The definitions of mosaikrun_again, by their files.
pub mod Again
pub mod Readable
pub mod Saying
