-- The invariants and measures of the loops of `taking::get_data`.
use Rattle.std.proofs.Common.{◌≡◌, take}
use Rattle.mk_sched.proofs.taking.get_data.Given as goal

abbrev pub invariant-loop-want : goal.invariant-loop-want
invariant-loop-want l = (l.want-items ≡ l.wants) × (l.wanted ≡ take l.want-index l.wants)
