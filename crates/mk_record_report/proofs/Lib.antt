-- The lemmas of mk_record_report, by their files.
pub mod Bare
mod Lasts
mod Parting
mod Summing
mod Tallying
mod Texts
