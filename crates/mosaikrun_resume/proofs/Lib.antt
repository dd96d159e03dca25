-- The lemmas of mosaikrun_resume, by their files.
pub mod Reporting
pub mod Telling
pub mod Showing
