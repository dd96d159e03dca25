-- The lemmas of mk_progress, by their files.
pub mod Counting
pub mod OnBoth
