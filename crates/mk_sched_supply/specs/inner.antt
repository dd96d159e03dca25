-- What proofs alone need.
pub mod Gifts
pub mod Making
