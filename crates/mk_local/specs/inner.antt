-- What proofs alone need.
pub mod Calls
pub mod Inputs
pub mod Registries
pub mod Steps
