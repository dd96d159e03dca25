-- The definitions of mosaikrun_sayings, by their files.
pub mod Sayings
pub mod Stops
