-- The lemmas of mk_onlooker, by their files.
pub mod OnShowings
