-- The definitions of mosaikrun_blame, by their files.
pub mod Blames
pub mod inner
