-- Answers to the goals of `trees::object` that the prover leaves.
use Rattle.std.specs.List.Sorted.{IsStrictlySortedBy}
use Rattle.mk_local.proofs.trees.object.Goals as goal

pub from_sorted-requires : goal.from_sorted-requires
unfolding IsStrictlySortedBy
from_sorted-requires c = rw (c.in_ok-push.ensures.ok, c.in_ok-only.ensures) (tt, tt)
