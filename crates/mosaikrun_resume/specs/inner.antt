-- What proofs alone need.
pub mod Refusals
