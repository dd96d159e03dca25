-- What proofs alone need.
pub mod Cursors
pub mod Fakes
pub mod Notes
pub mod Telling
