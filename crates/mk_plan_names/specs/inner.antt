-- What proofs alone need.
pub mod Making
