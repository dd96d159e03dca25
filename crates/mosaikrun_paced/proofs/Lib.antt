-- The lemmas of mosaikrun_paced, by their files.
pub mod Recording
pub mod Reporting
pub mod Telling
