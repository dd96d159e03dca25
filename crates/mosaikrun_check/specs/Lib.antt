-- The definitions of mosaikrun_check, by their files.
pub mod CheckText
pub mod Checks
pub mod Runnable
