-- The invariants and measures of the loops of `calls::new_entities`.
use Rattle.std.proofs.Common.{◌≡◌, replicate}
use Rattle.mk_local.specs.Calls.{new_entity}
use Rattle.mk_local.proofs.calls.new_entities.Given as goal

abbrev pub invariant-loop-made : goal.invariant-loop-made
invariant-loop-made l = l.new ≡ replicate l._made (new_entity l.setting)
