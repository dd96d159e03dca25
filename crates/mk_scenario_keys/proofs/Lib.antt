-- The lemmas of mk_scenario_keys, by their files.
pub mod Ranges
pub mod Gathering
pub mod Passing
pub mod KeyFacts
