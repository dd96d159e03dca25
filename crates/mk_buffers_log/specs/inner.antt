-- What proofs alone need.
pub mod Logs
