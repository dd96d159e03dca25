-- For proofs alone. Members put one after another, the last of a name staying.
use Rattle.std.specs.Prelude.{ℕ, List, [], ◌∷◌, map, String, string_bytes}
use Rattle.std.specs.declared.alloc.Global.{Global}
use Rattle.std.specs.Ordering.{nat_cmp}
use Rattle.std.specs.Cmp.Lexicographic.{slice_cmp}
use Rattle.std.specs.BTreeMap.{insert_entry}
use Rattle.mk_base.specs.declared.json.Json.{Json}

-- the entries, with each of these put after them
abbrev pub put_all : List (List ℕ × Json) → List (List ℕ × Json) → List (List ℕ × Json)
put_all es [] = es
put_all es (m ∷ ms) = put_all (insert_entry (slice_cmp nat_cmp) es m.0 m.1) ms

-- an entry of a map by the bytes of its name
abbrev pub by_bytes : String Global × Json → List ℕ × Json
by_bytes e = (string_bytes e.0, e.1)

abbrev pub named : List (String Global × Json) → List (List ℕ × Json)
named es = map by_bytes es
