-- The lemmas of mk_real_trials, by their files.
pub mod Opened
