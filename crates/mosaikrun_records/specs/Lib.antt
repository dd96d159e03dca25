-- The definitions of mosaikrun_records, by their files.
pub mod Migrations
pub mod Reports
pub mod Saved
pub mod inner
