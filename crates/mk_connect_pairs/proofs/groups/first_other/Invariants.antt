-- No name before the one that is looked at was unknown.
use Rattle.std.proofs.Common.{◌≡◌, ℕ, List, drop, map, not}
use Rattle.std.specs.List.{find}
use Rattle.mk_base.specs.declared.json.Json.{Json}
use Rattle.mk_connect_pairs.proofs.groups.first_other.Given as goal
use Rattle.mk_base.specs.Lists.{is_among}

abbrev pub invariant-loop-name : goal.invariant-loop-name
invariant-loop-name l = find (λ key. not (is_among l.known key)) (map (λ (m : List ℕ × Json). m.0) (drop l.name-index l.members)) ≡ find (λ key. not (is_among l.known key)) (map (λ (m : List ℕ × Json). m.0) l.members)
