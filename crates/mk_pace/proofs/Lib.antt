-- The lemmas of mk_pace, by their files.
pub mod Beginning
pub mod Early
pub mod Telling
pub mod Whole
pub mod WholeRuns
