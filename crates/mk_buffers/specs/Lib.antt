-- The definitions of mk_buffers, by their files.
pub mod Marking
pub mod Held
pub mod Slots
pub mod Listing
pub mod Bounds
pub mod Standing
pub mod inner
