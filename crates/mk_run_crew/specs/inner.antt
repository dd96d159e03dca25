-- What proofs alone need.
pub mod Asking
pub mod Calls
pub mod Placed
pub mod Wholly
