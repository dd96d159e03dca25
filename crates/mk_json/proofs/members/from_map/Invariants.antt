-- The invariants and measures of the loops of `members::from_map`.
use Rattle.std.proofs.Common.{◌≡◌, List, ◌++◌, String, Global}
use Rattle.mk_base.specs.declared.json.Json.{Json}
use Rattle.mk_json.specs.inner.Gathered.{named}
use Rattle.mk_json.proofs.members.from_map.Given as goal

abbrev pub invariant-loop-name : goal.invariant-loop-name
invariant-loop-name l = (done : List (String Global × Json)) × (l.fn.sorted.entries ≡ done ++ l.name-iterator) × (l.found ≡ named done)
