-- The invariants and measures of the loops of `inputs::nothing_taken`.
use Rattle.std.proofs.Common.{◌≡◌, false, pos, replicate}
use Rattle.mk_local.proofs.inputs.nothing_taken.Given as goal

abbrev pub invariant-loop-made : goal.invariant-loop-made
invariant-loop-made l = l.all ≡ replicate l._made (record { seen = false; sum = pos 0 })
