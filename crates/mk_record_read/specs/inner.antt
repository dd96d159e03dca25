-- What proofs alone need.
pub mod Faults
pub mod Lines
pub mod Seen
pub mod Steps
pub mod PlainLines
