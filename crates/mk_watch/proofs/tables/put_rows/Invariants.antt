-- The invariants and measures of the loops of `tables::put_rows`.
use Rattle.std.proofs.Common.{map}
use Rattle.mk_watch.proofs.Gathering.{IsSoFar}
use Rattle.mk_watch.proofs.tables.put_rows.Given as goal

abbrev pub invariant-loop-item : goal.invariant-loop-item
invariant-loop-item g l = IsSoFar l.rule.fold l.eid l.attr (map (λ x. x.now) l.items) l.item-index l.initial.out.items l.out.items l.count l.total
