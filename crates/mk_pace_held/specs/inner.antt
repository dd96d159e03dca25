-- What proofs alone need.
pub mod Minima
