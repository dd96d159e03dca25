-- What proofs alone need.
pub mod Pairs
