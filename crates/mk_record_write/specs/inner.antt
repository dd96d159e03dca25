-- What proofs alone need.
pub mod Commas
pub mod Writable
