-- The lemmas of mk_scenario_toml, by their files.
pub mod Levels
pub mod Values
pub mod Rows
pub mod Texts
