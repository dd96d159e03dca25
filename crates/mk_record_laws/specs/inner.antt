-- What proofs alone need.
pub mod Readable
