-- The lemmas of mk_scribe, by their files.
pub mod Closing
pub mod Noting
pub mod Pieces
pub mod Texts
