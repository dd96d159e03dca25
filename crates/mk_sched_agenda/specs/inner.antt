-- What proofs alone need.
pub mod Begun
pub mod Coming
pub mod Counts
pub mod Dues
pub mod Outlets
