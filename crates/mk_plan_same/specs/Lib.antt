-- The definitions of mk_plan_same, by their files.
pub mod Decisions
pub mod Parts
