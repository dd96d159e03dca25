-- The invariants and measures of the loops of `lines::events_fit`.
use Rattle.std.proofs.Common.{◌≡◌, take, true}
use Rattle.std.specs.List.{list_all}
use Rattle.mk_record_read.specs.Lines.{event_fits}
use Rattle.mk_record_read.proofs.lines.events_fit.Given as goal

abbrev pub invariant-loop-event : goal.invariant-loop-event
invariant-loop-event l = list_all event_fits (take l.event-index l.events) ≡ true
