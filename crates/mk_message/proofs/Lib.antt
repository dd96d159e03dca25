-- The lemmas of mk_message, by their files.
pub mod Gathering
pub mod Parameters
pub mod Ranges
pub mod ReadBack
