-- No name before the one that is looked at was another.
use Rattle.std.proofs.Common.{◌≡◌, ℕ, List, drop, map, not}
use Rattle.std.specs.List.{find}
use Rattle.mk_base.specs.declared.json.Json.{Json}
use Rattle.mk_scenario.proofs.blocks.first_other.Given as goal
use Rattle.mk_base.specs.Lists.{is_among}

abbrev pub invariant-loop-name : goal.invariant-loop-name
invariant-loop-name l = find (λ key. not (is_among l.names key)) (map (λ (m : List ℕ × Json). m.0) (drop l.name-index l.members)) ≡ find (λ key. not (is_among l.names key)) (map (λ (m : List ℕ × Json). m.0) l.members)
