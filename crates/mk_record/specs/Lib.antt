-- What the contracts of this crate's calls say, from the crates that define it.
pub use Rattle.mk_record_read.specs.Entries
pub use Rattle.mk_record_read.specs.Lines
pub use Rattle.mk_record_read.specs.Reading
pub use Rattle.mk_record_read.specs.Seen
pub use Rattle.mk_record_read.specs.Steps
pub use Rattle.mk_record_read.specs.Texts
pub use Rattle.mk_record_read.specs.declared.saved.Arrival
pub use Rattle.mk_record_read.specs.declared.saved.Asked
pub use Rattle.mk_record_laws.specs.Again
pub use Rattle.mk_record_laws.specs.Readable
pub use Rattle.mk_record_write.specs.Writable
pub use Rattle.mk_record_compare.specs.Differences
pub use Rattle.mk_record_replay.specs.Orders
pub use Rattle.mk_record_replay.specs.Replays
pub use Rattle.mk_record_replay.specs.declared.replaying.ReplayEnd
