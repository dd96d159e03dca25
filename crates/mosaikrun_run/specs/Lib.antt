-- The definitions of mosaikrun_run, by their files.
pub mod Laws
pub mod Outcomes
pub mod Records
pub mod Sayings
pub mod Shown
