-- What proofs alone need.
pub mod Streams
pub mod Written
pub mod Asks
