-- What proofs alone need.
pub mod Catching
pub mod Touching
