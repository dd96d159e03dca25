-- The lemmas of mk_run_crew, by their files.
pub mod Answered
mod Asked
pub mod ButOne
mod Completing
mod Composing
mod Ending
mod Faultless
mod Going
pub mod Halting
mod HeardMore
mod Looping
mod Placing
mod Requests
pub mod Simulators
pub mod Started
mod Starting
pub mod Stopped
mod Trying
pub mod Unlinked
