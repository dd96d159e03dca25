-- The lemmas of mk_record_restored, by their files.
pub mod AfterRecord
pub mod OneRestored
