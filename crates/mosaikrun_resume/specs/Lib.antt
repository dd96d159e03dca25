-- The definitions of mosaikrun_resume, by their files.
pub mod Laws
pub mod Outcomes
pub mod Sayings
pub mod Shown
pub mod inner
