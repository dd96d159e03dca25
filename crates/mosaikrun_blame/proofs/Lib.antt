-- The lemmas of mosaikrun_blame, by their files.
pub mod Comparing
pub mod Limit
pub mod OneBlame
pub mod Parts
pub mod Writable
