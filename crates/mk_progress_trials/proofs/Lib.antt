-- The lemmas of mk_progress_trials, by their files.
pub mod Shown
