-- The invariants and measures of the loops of `data::some_bad_part`.
use Rattle.std.proofs.Common.{◌≡◌, drop, not}
use Rattle.std.specs.List.{list_any}
use Rattle.mk_base.specs.Trees.{is_object}
use Rattle.mk_plan.specs.Turns.{holds_of, part_for}
use Rattle.mk_plan_judge.specs.inner.Parts.{HasPart}
use Rattle.mk_plan_judge.proofs.data.some_bad_part.Given as goal

abbrev pub invariant-loop-want : goal.invariant-loop-want
invariant-loop-want l = (l.want-items ≡ l.wants) × (list_any (λ w. holds_of (λ t. not (is_object t)) (part_for l.content w)) (drop l.want-index l.wants) ≡ list_any (λ w. holds_of (λ t. not (is_object t)) (part_for l.content w)) l.wants)
    × HasPart l.lookups × (l.lookups.content.now ≡ l.content)
