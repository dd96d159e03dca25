-- What proofs alone need.
pub mod Reading
pub mod Starting
pub mod Steps
