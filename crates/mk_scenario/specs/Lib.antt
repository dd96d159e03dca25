-- The definitions of mk_scenario, by their files.
pub mod Sims
pub mod Places
pub mod Groups
pub mod Ids
pub mod References
pub mod Blocks
pub mod Scenarios
pub mod Wellformed
pub mod inner
