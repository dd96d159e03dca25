-- The lemmas of mk_scribe_trials, by their files.
pub mod Parts
