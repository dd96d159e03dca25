-- What proofs alone need.
pub mod Loops
pub mod Rounds
