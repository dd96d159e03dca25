-- The lemmas of mosaikrun_watch, by their files.
pub mod OneWatch
mod Outcomes
