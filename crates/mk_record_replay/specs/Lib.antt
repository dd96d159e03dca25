-- The definitions of mk_record_replay, by their files.
pub mod Orders
pub mod Replays
pub mod Runs
pub mod inner
