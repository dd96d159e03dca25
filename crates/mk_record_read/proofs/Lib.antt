-- The lemmas of mk_record_read, by their files.
pub mod Gathering
pub mod Known
pub mod Ranges
pub mod Rows
pub mod Sound
pub mod Splitting
mod PlainLines
