-- What proofs alone need.
pub mod Counts
pub mod Kept
pub mod Stages
pub mod Standing
