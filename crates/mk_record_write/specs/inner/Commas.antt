-- For proofs alone. The commas of a list that is written item by item.
use Rattle.std.specs.Prelude.{ℕ, zero, suc, List, [], codes}

-- what stands before the item at this place
abbrev pub comma_before : ℕ → List ℕ
comma_before zero = []
comma_before (suc place) = codes ","
