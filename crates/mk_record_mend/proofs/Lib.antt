-- The lemmas of mk_record_mend, by their files.
pub mod Counting
pub mod Cutting
pub mod Ends
pub mod EntryKinds
pub mod Lines
pub mod Pieces
pub mod Reading
