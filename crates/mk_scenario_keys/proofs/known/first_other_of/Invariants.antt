-- The invariants and measures of the loops of `known::first_other_of`.
use Rattle.std.proofs.Common.{◌≡◌, ℕ, List, drop, map, not}
use Rattle.std.specs.List.{find}
use Rattle.mk_base.specs.declared.json.Json.{Json}
use Rattle.mk_scenario_keys.proofs.known.first_other_of.Given as goal
use Rattle.mk_base.specs.Lists.{is_among}

abbrev pub invariant-loop-key : goal.invariant-loop-key
invariant-loop-key l = (l.key-items ≡ l.members) × (find (λ key. not (is_among (map (λ key. key.now) l.keys) key)) (map (λ (m : List ℕ × Json). m.0) (drop l.key-index l.key-items)) ≡ find (λ key. not (is_among (map (λ key. key.now) l.keys) key)) (map (λ (m : List ℕ × Json). m.0) l.members))
