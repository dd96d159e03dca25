-- The lemmas of mk_blame, by their files.
pub mod Grouping
pub mod Judging
pub mod Parts
pub mod Talking
