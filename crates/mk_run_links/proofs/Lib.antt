-- The lemmas of mk_run_links, by their files.
pub mod Beginning
mod Hearing
mod Linking
mod Looking
mod Marking
pub mod OnEntries
mod OnChannels
pub mod OnStops
mod Sending
pub mod Standing
