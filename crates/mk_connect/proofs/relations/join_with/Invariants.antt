-- The invariants and measures of the loops of `relations::join_with`.
use Rattle.std.proofs.Common.{◌≡◌, map, take}
use Rattle.std.specs.Prelude.{fold}
use Rattle.mk_connect.specs.inner.Joining.{joined}
use Rattle.mk_connect.proofs.relations.join_with.Given as goal

abbrev pub invariant-loop-other : goal.invariant-loop-other
invariant-loop-other l = l.lists.items ≡ fold joined l.fn.lists.items (map (λ i. (l.number, i)) (take l.other-index l.other-items))
