-- What proofs alone need.
pub mod Holding
pub mod Derived
pub mod Patient
