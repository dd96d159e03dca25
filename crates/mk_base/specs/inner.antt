-- What proofs alone need.
pub mod Entries
pub mod Lists
pub mod Proper
