-- The definitions of mosaikrun_demo, by their files.
pub mod Outcomes
