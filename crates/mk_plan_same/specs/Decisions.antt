-- Tests that decide a fact.
use Rattle.std.specs.Prelude.{Bool, true, false}

-- the test says whether the fact holds
abbrev pub Decides : Bool → Type 0 → Type 0
Decides true fact = fact
Decides false fact = fact → ⊥
