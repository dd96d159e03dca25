-- What proofs alone need.
pub mod Outline
pub mod Gathered
pub mod Quotes
