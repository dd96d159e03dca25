-- What proofs alone need.
pub mod Making
pub mod Names
pub mod Tied
