-- The lemmas of mk_json, by their files.
pub mod LevelTests
pub mod Layers
pub mod Values
pub mod OfOutlines
pub mod Compact
pub mod Back
mod Turns
mod Gathering
mod Quoting
