-- The invariants and measures of the loops of `json::+nest`.
use Rattle.std.proofs.Common.{◌≡◌, drop, nat_le}
use Rattle.std.specs.List.{list_all}
use Rattle.mk_base.specs.Trees.{nesting}
use Rattle.mk_base.proofs.json.+nest.Given as goal

abbrev pub invariant-nest_within-loop-item : goal.invariant-nest_within-loop-item
invariant-nest_within-loop-item l = (l.item-items ≡ l.items) × (list_all (λ t. nat_le (nesting t) l.depth) (drop l.item-index l.items) ≡ list_all (λ t. nat_le (nesting t) l.depth) l.items)

abbrev pub invariant-have_nested_within-loop-value : goal.invariant-have_nested_within-loop-value
invariant-have_nested_within-loop-value l = (l.value-items ≡ l.members) × (list_all (λ m. nat_le (nesting m.1) l.depth) (drop l.value-index l.members) ≡ list_all (λ m. nat_le (nesting m.1) l.depth) l.members)
