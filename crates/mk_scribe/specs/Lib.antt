-- The definitions of mk_scribe, by their files.
pub mod Desks
pub mod Drafts
pub mod Laws
pub mod Leaving
pub mod Openings
pub mod inner
