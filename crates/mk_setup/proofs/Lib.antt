-- The lemmas of mk_setup, by their files.
pub mod Sequence
mod Replied
mod Reaching
mod Planned
mod Making
pub mod Counting
mod Creating
mod Stepping
mod Completing
mod Asked
mod Heard
