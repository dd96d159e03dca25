-- What proofs alone need.
pub mod Rules
