-- What proofs alone need.
pub mod Going
