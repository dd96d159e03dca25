-- The lemmas of mk_plan_check, by their files.
pub mod Meaning
pub mod Neighbours
pub mod Scanning
