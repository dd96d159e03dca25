-- The lemmas of mk_record_write, by their files.
pub mod EntryLines
pub mod Joining
