-- The invariants and measures of the loops of `json::+whole`.
use Rattle.std.proofs.Common.{◌≡◌, drop}
use Rattle.std.specs.List.{list_all}
use Rattle.mk_base.specs.Trees.{is_whole}
use Rattle.mk_base.proofs.json.+whole.Given as goal

abbrev pub invariant-are_whole-loop-item : goal.invariant-are_whole-loop-item
invariant-are_whole-loop-item l = (l.item-items ≡ l.items) × (list_all (λ t. is_whole t) (drop l.item-index l.items) ≡ list_all (λ t. is_whole t) l.items)

abbrev pub invariant-have_whole-loop-value : goal.invariant-have_whole-loop-value
invariant-have_whole-loop-value l = (l.value-items ≡ l.members) × (list_all (λ m. is_whole m.1) (drop l.value-index l.members) ≡ list_all (λ m. is_whole m.1) l.members)
