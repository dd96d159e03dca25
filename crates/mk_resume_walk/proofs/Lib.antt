-- The lemmas of mk_resume_walk, by their files.
pub mod Alternating
pub mod Fronts
pub mod GoingOn
pub mod Indexing
pub mod Passing
pub mod UpTo
