-- What proofs alone need.
pub mod Folding
pub mod Shares
