-- What proofs alone need.
pub mod Standing
