-- The invariants and measures of the loops of `holds::Holds::new`.
use Rattle.std.proofs.Common.{◌≡◌, [], replicate}
use Rattle.mk_pace_held.proofs.holds.Holds.new.Given as goal

abbrev pub invariant-loop-sim : goal.invariant-loop-sim
invariant-loop-sim l = l.queues.items ≡ replicate l._sim []
