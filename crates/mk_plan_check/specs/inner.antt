-- What proofs alone need.
pub mod FirstBad
pub mod Marks
