-- The invariants and measures of the loops of `data::values_for`.
use Rattle.std.proofs.Common.{◌≡◌, map, option_map, take}
use Rattle.mk_plan.specs.Turns.{value_for}
use Rattle.mk_plan_judge.specs.inner.Parts.{HasPart}
use Rattle.mk_plan_judge.proofs.data.values_for.Given as goal

abbrev pub invariant-loop-want : goal.invariant-loop-want
invariant-loop-want l = (l.want-items ≡ l.wants) × (map (option_map (λ v. v.now)) l.values.items ≡ map (value_for l.content) (take l.want-index l.wants))
    × HasPart l.lookups × (l.lookups.content.now ≡ l.content)
