-- What proofs alone need.
pub mod Asking
pub mod Comparisons
pub mod Ending
pub mod Standings
pub mod Turns
pub mod Underway
