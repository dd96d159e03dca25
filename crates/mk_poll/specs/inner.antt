-- What proofs alone need.
pub mod Links
