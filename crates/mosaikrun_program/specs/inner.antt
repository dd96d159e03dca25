-- What proofs alone need.
pub mod Around
pub mod Drafting
pub mod Making
