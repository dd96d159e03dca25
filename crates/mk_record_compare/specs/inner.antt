-- What proofs alone need.
pub mod Matches
