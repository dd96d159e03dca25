-- The definitions of mk_scenario_toml, by their files.
pub mod Document
