-- proofs/ordering/split/Invariants.antt
use Rattle.std.proofs.Common.{◌≡◌, ◌++◌, [], List, map, length}
use Rattle.mk_record_read.specs.declared.saved.Arrival.{Arrival}
use Rattle.mk_record_read.specs.Seen.{came}
use Rattle.mk_record_replay.specs.inner.Rounds.{AreWaiting, AreFit}
use Rattle.mk_record_replay.proofs.ordering.split.Given as goal

abbrev pub invariant-loop-arrival : goal.invariant-loop-arrival
invariant-loop-arrival l = record {
  done : List Arrival;
  parts : l.fn.arrivals ≡ l.left ++ done;
  waiting : AreWaiting l.count (map came done) [] l.waiting.items;
  fit : AreFit l.count l.waiting.items;
}

abbrev pub decreases-loop-arrival : goal.decreases-loop-arrival
decreases-loop-arrival l = length l.left
