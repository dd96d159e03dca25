-- What proofs alone need.
pub mod Beginning
pub mod Building
pub mod Held
pub mod Listing
pub mod Marking
pub mod Slots
pub mod Standing
