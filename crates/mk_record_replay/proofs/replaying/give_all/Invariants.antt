-- The invariants and measures of the loops of `replaying::give_all`.
use Rattle.std.proofs.Common.{◌≡◌, ◌++◌, None, List, map, length, reverse}
use Rattle.mk_record_read.specs.declared.saved.Arrival.{Arrival}
use Rattle.mk_record_read.specs.Seen.{came}
use Rattle.mk_record_replay.specs.inner.Loops.{IsOnWay}
use Rattle.mk_record_replay.proofs.replaying.give_all.Given as goal

abbrev pub invariant-loop-arrival : goal.invariant-loop-arrival
invariant-loop-arrival l = record {
  going : l.core.ended ≡ None;
  plan : l.core.plan ≡ l.fn.core.plan;
  given : List Arrival;
  parts : l.fn.arrivals ≡ given ++ reverse l.left;
  on_way : IsOnWay l.fn.core.plan (map came given) l.core.entries;
}

abbrev pub decreases-loop-arrival : goal.decreases-loop-arrival
decreases-loop-arrival l = length l.left
