-- What waits first.
use Rattle.std.specs.Prelude.{◌≡◌, ◌⊎◌, ℕ, ◌<◌, ◌≤◌, ◌==◌, ◌&&◌, ◌||◌, nat_lt, nat_le, Bool, List, [], ◌∷◌, length, Option, Some, None, option_map, slice_get, if◌then◌else◌}
use Rattle.mk_base.specs.declared.SimNo.{SimNo}
use Rattle.mk_pace_held.specs.declared.held.Due.{Due}
use Rattle.mk_pace_held.specs.declared.held.First.{First}
use Rattle.mk_pace_held.specs.declared.held.Held.{Held}

-- the moment of the one is earlier, or is the same and it was asked for no later
abbrev pub IsNoLater : First → First → Type 0
IsNoLater f g = (f.due.moment < g.due.moment)
    ⊎ ((f.due.moment ≡ g.due.moment) × (f.place ≤ g.place))

-- the same as a test
abbrev pub is_no_later : First → First → Bool
is_no_later f g = nat_lt f.due.moment g.due.moment
    || ((f.due.moment == g.due.moment) && nat_le f.place g.place)

-- which of two is to be sent before the other
abbrev pub earlier_of : Option First → Option First → Option First
earlier_of None next = next
earlier_of (Some f) None = Some f
earlier_of (Some f) (Some g) = if is_no_later f g then Some f else Some g

-- the Step that these items of a simulator begin with, if they do
abbrev pub first_at : SimNo → List Held → Option First
first_at sim [] = None
first_at sim (h ∷ rest) = option_map
    (λ (d : Due). record { sim = sim; place = h.place; due = d }) h.due

-- it is that of its simulator, and that of no other simulator is to be sent before it
pub record IsFirst (f : First) (lists : List (List Held)) : Type 0 where
  pub items : List Held
  pub there : slice_get lists f.sim.0 ≡ Some items
  pub here : first_at f.sim items ≡ Some f
  pub least : (i : ℕ) (q : List Held) (g : First) → slice_get lists i ≡ Some q
      → first_at (record { 0 = i }) q ≡ Some g → IsNoLater f g

-- the items of simulator s were these and are those, and all others are as before
pub record IsChanged (s : ℕ) (was now : List Held) (old new : List (List Held)) : Type 0 where
  pub there : slice_get old s ≡ Some was
  pub here : slice_get new s ≡ Some now
  pub others : (i : ℕ) → (i ≡ s → ⊥) → slice_get new i ≡ slice_get old i
  pub count : length new ≡ length old
