-- The lemmas of mk_async, by their files.
pub mod Depths
pub mod Entities
pub mod Giving
pub mod Judging
pub mod Reading
pub mod Relating
pub mod Sourcing
pub mod Testing
pub mod Writing
