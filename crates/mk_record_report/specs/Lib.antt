-- The definitions of mk_record_report, by their files.
pub mod inner
