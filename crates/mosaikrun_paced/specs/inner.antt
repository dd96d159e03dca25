-- What proofs alone need.
pub mod Halts
