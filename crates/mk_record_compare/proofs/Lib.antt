-- The lemmas of mk_record_compare, by their files.
pub mod Left
pub mod Levels
pub mod Matching
pub mod Named
pub mod Pairs
pub mod Places
pub mod Walking
