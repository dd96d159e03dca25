-- The lemmas of mk_meta, by their files.
pub mod Gathering
pub mod Known
pub mod Names
pub mod Sets
