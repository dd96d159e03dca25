-- What proofs alone need.
pub mod Signs
pub mod Members
