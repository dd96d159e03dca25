-- What proofs alone need.
pub mod Running
