-- The invariants and measures of the loops of `lines::times_of`.
use Rattle.std.proofs.Common.{◌≡◌, take}
use Rattle.mk_record_read.proofs.lines.times_of.Given as goal

abbrev pub invariant-loop-event : goal.invariant-loop-event
invariant-loop-event l = l.times ≡ take l.event-index l.events
