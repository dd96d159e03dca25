-- What proofs alone need.
pub mod Named
pub mod TextSets
