-- The marks of simulators, before which they ask nothing.
use Rattle.std.specs.Prelude.{◌≡◌, ℕ, ◌<◌, Bool, true, ◌||◌, ◌==◌, if◌then◌else◌, List, slice_get, Some, length}
use Rattle.std.specs.List.{list_any}
use Rattle.mk_plan.specs.declared.Plan.{Plan}
use Rattle.mk_plan.specs.Plans.{owner}
use Rattle.mk_base.specs.declared.tier.Tier.{Tier}
use Rattle.mk_base.specs.Tiers.{IsUpTo, up_to}

-- each simulator's mark and whether it asks, and the least mark of those that ask
pub record Marked : Type 0 where
  pub marks : List Tier
  pub asks : List Bool
  pub least : Tier

-- this time is up to the mark of each simulator that asks
abbrev pub IsLow : List Tier → List Bool → Tier → Type 0
IsLow marks asks least = (s : ℕ) (m : Tier) → slice_get asks s ≡ Some true
    → slice_get marks s ≡ Some m → IsUpTo least m

-- the simulator has an incoming connection, or is the second of an asynchronous pair
abbrev pub asks_of : Plan → ℕ → Bool
asks_of P s = list_any (λ c. owner P c.to == s) P.conns || list_any (λ p. p.to.0 == s) P.asyncs

-- those that ask are those of the plan
pub record AreAsking (P : Plan) (asks : List Bool) : Type 0 where
  pub count : length asks ≡ length P.sims
  pub each : (s : ℕ) → s < length P.sims → slice_get asks s ≡ Some (asks_of P s)

-- the least mark is that of one that asks, if one asks, and up to those of all that ask
pub record IsLeastMark (m : Marked) : Type 0 where
  pub low : IsLow m.marks m.asks m.least
  pub held : (s : ℕ) → slice_get m.asks s ≡ Some true → (r : ℕ) × (slice_get m.asks r ≡ Some true)
      × (slice_get m.marks r ≡ Some m.least)

-- the greater of two times
abbrev pub greater : Tier → Tier → Tier
greater x y = if up_to y x then x else y
