-- What proofs alone need.
pub mod Boxes
pub mod Fronts
pub mod Judged
pub mod Talks
