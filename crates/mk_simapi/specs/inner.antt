-- What proofs alone need.
pub mod Answers
pub mod Inputs
pub mod Standing
pub mod Steps
