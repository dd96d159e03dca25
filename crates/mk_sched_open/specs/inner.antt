-- What proofs alone need.
pub mod Changes
