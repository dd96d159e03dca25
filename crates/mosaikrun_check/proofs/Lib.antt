-- The lemmas of mosaikrun_check, by their files.
mod Ranges
pub mod OneRanking
pub mod OfEdges
