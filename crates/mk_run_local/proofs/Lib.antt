-- The lemmas of mk_run_local, by their files.
pub mod Numbers
pub mod Replying
mod Following
mod Placing
mod Beginning
