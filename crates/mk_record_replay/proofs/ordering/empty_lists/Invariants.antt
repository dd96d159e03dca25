-- proofs/ordering/empty_lists/Invariants.antt
use Rattle.std.proofs.Common.{[]}
use Rattle.mk_record_replay.specs.inner.Rounds.{AreWaiting, AreFit}
use Rattle.mk_record_replay.proofs.ordering.empty_lists.Given as goal

abbrev pub invariant-loop : goal.invariant-loop
invariant-loop l = record { waiting : AreWaiting l.counter [] [] l.lists.items; fit : AreFit l.counter l.lists.items }
