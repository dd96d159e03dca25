-- The invariants and measures of the loops of `values::folded`.
use Rattle.std.proofs.Common.{◌≡◌, take}
use Rattle.mk_watch.proofs.Gathering.{value_after}
use Rattle.mk_watch.proofs.values.folded.Given as goal

abbrev pub invariant-loop-input : goal.invariant-loop-input
invariant-loop-input g l = l.value ≡ value_after l.rule.fold l.eid l.attr (take l.input-index l.inputs)
