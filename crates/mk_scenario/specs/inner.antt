-- What proofs alone need.
pub mod Blocks
pub mod Groups
pub mod Places
pub mod References
