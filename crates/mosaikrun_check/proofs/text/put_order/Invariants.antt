-- The invariants and measures of the loops of `text::put_order`.
use Rattle.std.proofs.Common.{◌≡◌, ◌++◌}
use Rattle.mosaikrun_check.specs.CheckText.{ids_by_rank}
use Rattle.mosaikrun_check.proofs.text.put_order.Given as goal

abbrev pub invariant-loop-rank : goal.invariant-loop-rank
invariant-loop-rank l = l.out.items ≡ l.fn.out.items ++ ids_by_rank l.scenario l.ranks l.rank
