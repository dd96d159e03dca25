-- What proofs alone need.
pub mod Asyncs
pub mod Joining
