-- What proofs alone need.
pub mod Parted
