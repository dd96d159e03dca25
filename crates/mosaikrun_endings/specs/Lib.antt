-- The definitions of mosaikrun_endings, by their files.
pub mod Endings
pub mod Launches
pub mod Scenarios
pub mod Links
pub mod Setups
pub mod Watches
