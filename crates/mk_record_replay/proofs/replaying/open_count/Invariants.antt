-- The invariants and measures of the loops of `replaying::open_count`.
use Rattle.std.proofs.Common.{◌≡◌}
use Rattle.mk_record_replay.specs.inner.Loops.{open_ids}
use Rattle.mk_record_replay.proofs.replaying.open_count.Given as goal

abbrev pub invariant-loop-number : goal.invariant-loop-number
invariant-loop-number l = l.count ≡ open_ids l.core l.number
