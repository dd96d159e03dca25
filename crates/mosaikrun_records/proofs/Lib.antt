-- The lemmas of mosaikrun_records, by their files.
mod Keeping
pub mod OneMigration
pub mod OneOutcome
pub mod OneReplay
pub mod WholeRuns
