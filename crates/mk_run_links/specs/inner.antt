-- What proofs alone need.
pub mod OneChannel
pub mod Index
pub mod Looks
pub mod Standing
