-- What proofs alone need.
pub mod Going
pub mod Given
