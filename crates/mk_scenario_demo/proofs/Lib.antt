-- The lemmas of mk_scenario_demo, by their files.
pub mod Rows
pub mod Wellformed
