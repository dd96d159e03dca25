-- The lemmas of mk_entities, by their files.
pub mod Adding
pub mod Distinct
pub mod Families
pub mod Faults
pub mod Lookups
pub mod Numbers
pub mod Rows
pub mod Sounding
pub mod Tying
