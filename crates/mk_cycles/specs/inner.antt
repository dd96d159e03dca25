-- What proofs alone need.
pub mod Listing
pub mod Tables
