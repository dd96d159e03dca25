-- The invariants and measures of the loops of `relations::join_all`.
use Rattle.std.proofs.Common.{◌≡◌, take}
use Rattle.std.specs.Prelude.{fold}
use Rattle.mk_connect.specs.inner.Joining.{joined}
use Rattle.mk_connect.proofs.relations.join_all.Given as goal

abbrev pub invariant-loop-pair : goal.invariant-loop-pair
invariant-loop-pair l = l.lists.items ≡ fold joined l.fn.lists.items (take l.pair-index l.pairs)
