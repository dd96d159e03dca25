-- For proofs alone. Beside `References`, which has what a reader needs.
use Rattle.std.specs.Prelude.{◌≡◌, ℕ, ◌==◌, List, true}
use Rattle.std.specs.List.{before_first, after_first}
use Rattle.mk_scenario.specs.References.{has_byte}

-- the text has this byte, and these stand before and after the first
abbrev pub IsAround : ℕ → List ℕ → List ℕ → List ℕ → Type 0
IsAround byte text before after =
    (has_byte byte text ≡ true) × (before ≡ before_first (λ b. b == byte) text)
    × (after ≡ after_first (λ b. b == byte) text)
