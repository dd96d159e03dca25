-- What proofs alone need.
pub mod PacedOut
pub mod Pacing
pub mod Sendings
pub mod Turns
pub mod Waiting
