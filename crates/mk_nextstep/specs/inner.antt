-- What proofs alone need.
pub mod Queues
