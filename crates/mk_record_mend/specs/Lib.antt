-- The definitions of mk_record_mend, by their files.
pub mod Mended
pub mod Whole
pub mod inner
