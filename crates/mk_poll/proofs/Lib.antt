-- The lemmas of mk_poll, by their files.
pub mod Apart
pub mod Lifting
pub mod OnLinks
pub mod Ready
pub mod Spotting
pub mod Standing
