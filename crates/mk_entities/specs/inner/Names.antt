-- For proofs alone. A simulator's eids as pairs of a text and a number.
use Rattle.std.specs.Prelude.{ℕ, List, map}
use Rattle.std.specs.declared.string.String.{String}
use Rattle.std.specs.String.{string_bytes}

-- the texts of the keys, each with its value
abbrev pub texts_of : {Y : Type 0} → List (String Y × ℕ) → List (List ℕ × ℕ)
texts_of {Y} entries = map (λ (e : String Y × ℕ). let q : List ℕ
    × ℕ = (string_bytes e.0, e.1) in q) entries
