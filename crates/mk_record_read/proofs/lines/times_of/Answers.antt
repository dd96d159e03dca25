-- Answers to the goals of `lines::times_of` that the prover leaves.
use Rattle.std.proofs.Common.{pos}
use Rattle.mk_record_read.specs.Lines.{event_fits}
use Rattle.mk_record_read.proofs.Ranges.{all_get}
use Rattle.mk_record_read.proofs.lines.times_of.Goals as goal

pub time_of-requires : goal.time_of-requires
time_of-requires c = all_get event_fits c.args.events.now c.loop-event.event-index (pos 0) c.requires c.loop-event-test.true
