-- proofs/ordering/sims_left/Invariants.antt
use Rattle.std.proofs.Common.{◌≡◌}
use Rattle.mk_record_replay.specs.inner.Rounds.{next_among}
use Rattle.mk_record_replay.proofs.ordering.sims_left.Given as goal

abbrev pub invariant-loop-place : goal.invariant-loop-place
invariant-loop-place l = l.sims.items ≡ next_among l.any l.core l.waiting l.place
