-- What proofs alone need.
pub mod Sendings
pub mod Shown
pub mod Turns
pub mod Underway
