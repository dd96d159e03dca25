-- What proofs alone need.
pub mod Migrations
pub mod Saved
