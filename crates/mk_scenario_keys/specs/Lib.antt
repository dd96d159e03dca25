-- The definitions of mk_scenario_keys, by their files.
pub mod Spelling
pub mod Tests
pub mod Keys
pub mod Known
