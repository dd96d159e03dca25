-- The lemmas of mk_plan_names, by their files.
pub mod Indexing
pub mod Sources
