-- The invariants and measures of the loops of `relations::join_own`.
use Rattle.std.proofs.Common.{◌≡◌, take}
use Rattle.std.specs.Prelude.{fold}
use Rattle.mk_connect.specs.inner.Joining.{joined}
use Rattle.mk_connect.specs.Related.{own_pairs}
use Rattle.mk_connect.proofs.relations.join_own.Given as goal

abbrev pub invariant-loop-number : goal.invariant-loop-number
invariant-loop-number l = l.lists.items ≡ fold joined l.fn.lists.items (own_pairs 0 (take l.number l.entities))
