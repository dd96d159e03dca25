-- For proofs alone. Beside `Held`, which has what a reader needs.
use Rattle.std.specs.Prelude.{◌≡◌, ℕ, ◌<◌, ℤ, true, List, [], ◌∷◌, ◌++◌, ⊤, ◌≤◌, false}
use Rattle.mk_base.specs.declared.tier.Tier.{Tier}
use Rattle.mk_plan.specs.Deliveries.{Timed}
use Rattle.mk_buffers.specs.declared.outlets.Outlet.{Outlet}
use Rattle.mk_buffers_log.specs.Logs.{AnswersFrom, IsAmong}
use Rattle.mk_buffers.specs.Held.{has_key}

-- an outlet whose outputs are some of those before, and answer as these, from the mark on
pub record IsThinned (until : ℤ) (mark : Tier) (old new : Outlet) : Type 0 where
  pub sim : new.sim ≡ old.sim
  pub entity : new.entity ≡ old.entity
  pub attr : new.attr ≡ old.attr
  pub vias : new.vias.items ≡ old.vias.items
  pub answers : AnswersFrom old.vias.items until mark new.log old.log
  pub among : IsAmong new.log old.log

-- the same of each two outlets at the same place
abbrev pub AreThinned : ℤ → Tier → List Outlet → List Outlet → Type 0
AreThinned until mark [] [] = ⊤
AreThinned until mark [] (n ∷ ns) = ⊥
AreThinned until mark (o ∷ os) [] = ⊥
AreThinned until mark (o ∷ os) (n ∷ ns) = IsThinned until mark o n × AreThinned until mark os ns

-- an outlet that took one more output
pub record HasTaken (until : ℤ) (mark : Tier) (t : Timed) (old new : Outlet) : Type 0 where
  pub sim : new.sim ≡ old.sim
  pub entity : new.entity ≡ old.entity
  pub attr : new.attr ≡ old.attr
  pub vias : new.vias.items ≡ old.vias.items
  pub answers : (hs : List Timed) → AnswersFrom old.vias.items until mark old.log hs
      → AnswersFrom old.vias.items until mark new.log (hs ++ t ∷ [])
  pub among : (hs : List Timed) → IsAmong old.log hs → IsAmong new.log (hs ++ t ∷ [])

-- the outlet at the place is that of this attribute of the entity
abbrev pub IsKeyAt : List Outlet → ℕ → List ℕ → ℕ → Type 0
IsKeyAt outlets e attr i = has_key outlets e attr i ≡ true

-- none of these places has the outlet of this attribute
abbrev pub IsKeyless : List Outlet → ℕ → List ℕ → ℕ → ℕ → Type 0
IsKeyless outlets e attr first end = (i : ℕ) → first ≤ i → i < end
    → has_key outlets e attr i ≡ false
