-- What proofs alone need.
pub mod Blocks
pub mod Lookups
