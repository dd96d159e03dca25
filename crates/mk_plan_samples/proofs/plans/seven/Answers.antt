-- Answers to the goals of `plans::seven` that the prover leaves.
use Rattle.std.proofs.Common.{◌≡◌, ◌≤◌, pos, [], ◌∷◌, refl, sym, subst, arith}
use Rattle.mk_base.specs.declared.json.Json as j
use Rattle.mk_base.specs.declared.json.Json.{Json}
use Rattle.mk_base.specs.Data.{IsDatumText}
use Rattle.mk_base.specs.Trees.{nesting}
use Rattle.mk_base.proofs.OnTrees.{trees_compute}
use Rattle.mk_plan_samples.proofs.plans.seven.Goals as goal

flat : nesting (j.Whole (pos 7)) ≡ 0
unfolding trees_compute
flat = refl

seven_is : IsDatumText (55 ∷ [])
unfolding trees_compute
seven_is = record { tree = j.Whole (pos 7); proper = refl; whole = refl; in_range = refl; deep = subst (λ n. n ≤ 102) (sym flat) (omega arith); is = refl }

pub of-requires : goal.of-requires
of-requires c = subst IsDatumText (sym c.in_ok-bytes.ensures.items) seven_is
