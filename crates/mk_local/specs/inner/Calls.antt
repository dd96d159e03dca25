-- For proofs alone. Beside `Calls`, which has what a reader needs.
use Rattle.std.specs.Prelude.{ℕ, List, Result, Ok, Err}
use Rattle.mk_base.specs.declared.json.Json.{Json}

-- what something is after a request: the first, unless the request was refused
abbrev pub if_taken : {X : Type 0} → Result Json (List ℕ) → X → X → X
if_taken (Ok content) done same = done
if_taken (Err text) done same = same
