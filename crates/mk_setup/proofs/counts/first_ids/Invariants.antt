-- The invariants and measures of the loops of `counts::first_ids`.
use Rattle.std.proofs.Common.{◌≡◌, length, take}
use Rattle.mk_setup.proofs.Counting.{counts_after}
use Rattle.mk_setup.proofs.counts.first_ids.Given as goal

abbrev pub invariant-loop-group : goal.invariant-loop-group
invariant-loop-group l = (l.group-items ≡ l.scenario.groups) × (l.ids ≡ counts_after (take l.group-index l.scenario.groups) (length l.scenario.sims))
