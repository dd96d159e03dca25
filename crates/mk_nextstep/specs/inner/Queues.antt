-- For proofs alone. Beside `Queues`, which has what a reader needs.
use Rattle.std.specs.Prelude.{◌≡◌, ℕ, suc, Bool, true, false, List, [], ◌∷◌, option_map, unwrap_or, slice_get, if◌then◌else◌, ⊤}
use Rattle.mk_base.specs.declared.tier.Tier.{Tier}
use Rattle.mk_base.specs.Tiers.{up_to, before}
use Rattle.mk_nextstep.specs.declared.queue.Due.{Due}

-- each comes after x
abbrev pub AllAfter : {X : Type 0} → (X → Tier) → Tier → List X → Type 0
AllAfter time x [] = ⊤
AllAfter time x (y ∷ ys) = (before x (time y) ≡ true) × AllAfter time x ys

-- each comes after the one before it
abbrev pub IsRising : {X : Type 0} → (X → Tier) → List X → Type 0
IsRising time [] = ⊤
IsRising time (x ∷ xs) = AllAfter time (time x) xs × IsRising time xs

-- how many come before x, of rising ones
abbrev pub leading : {X : Type 0} → (X → Tier) → Tier → List X → ℕ
leading time x [] = 0
leading time x (y ∷ ys) = if before (time y) x then suc (leading time x ys) else 0

-- a time itself
abbrev pub itself : Tier → Tier
itself t = t

-- the step at the place isn't after x
abbrev pub stands : Tier → List Due → ℕ → Bool
stands x ds i = unwrap_or (option_map (λ d. up_to d.at x) (slice_get ds i)) false
