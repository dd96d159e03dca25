-- The invariants and measures of the loops of `values::first_unfit_of`.
use Rattle.std.proofs.Common.{◌≡◌, ℕ, List, drop, not}
use Rattle.std.specs.List.{find}
use Rattle.mk_base.specs.declared.json.Json.{Json}
use Rattle.mk_base.specs.Trees.{is_datum}
use Rattle.mk_scenario_keys.proofs.values.first_unfit_of.Given as goal

abbrev pub invariant-loop-key : goal.invariant-loop-key
invariant-loop-key l = (l.key-items ≡ l.members) × (find (λ (m : List ℕ × Json). not (is_datum m.1)) (drop l.key-index l.key-items) ≡ find (λ (m : List ℕ × Json). not (is_datum m.1)) l.members)
