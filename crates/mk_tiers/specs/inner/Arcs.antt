-- For proofs alone. Beside `Arcs`, which has what a reader needs.
use Rattle.std.specs.Prelude.{◌≡◌, ℕ, ◌<◌, ◌≤◌, true, false, List, Some, length, ◌⊎◌, slice_get, slice_index}
use Rattle.mk_base.specs.Lists.{IsIn}
use Rattle.mk_tiers.specs.declared.arcs.Arc.{Arc}
use Rattle.mk_tiers.specs.declared.bits.Bits.{Bits}
use Rattle.mk_tiers.specs.Sets.{has}
use Rattle.mk_tiers.specs.Times.{never}
use Rattle.mk_tiers.specs.inner.Times.{over}
use Rattle.mk_tiers.specs.Arcs.{row}

-- when something comes over the arc
abbrev pub end : List ℕ → Arc → ℕ
end labels a = over (slice_index labels a.sim) a.way

-- an arc's other end is one of n simulators
abbrev pub IsBelow : ℕ → List Arc → Type 0
IsBelow n arcs = (a : Arc) → IsIn a arcs → a.sim < n

-- something comes at the mark or before it: a start, or over an arc
abbrev pub IsHeld : ℕ → List Arc → List ℕ → ℕ → Type 0
IsHeld own arcs labels mark = (own ≤ mark) ⊎ ((a : Arc) × IsIn a arcs × (end labels a ≤ mark))

-- something comes at the mark or before it over the arc at the place
abbrev pub IsHeldAt : List Arc → List ℕ → ℕ → ℕ → Type 0
IsHeldAt arcs labels mark k = (a : Arc) × (slice_get arcs k ≡ Some a) × (end labels a ≤ mark)

-- all that comes, comes after the mark
abbrev pub IsFree : List Arc → List ℕ → ℕ → Type 0
IsFree arcs labels mark = (a : Arc) → IsIn a arcs → mark < end labels a

-- arcs between n simulators, 255 at most, by their targets and by their sources: each of the first is
-- among the second
pub record IsNet (n : ℕ) (ins outs : List (List Arc)) : Type 0 where
  pub few : n ≤ 255
  pub ins_count : length ins ≡ n
  pub outs_count : length outs ≡ n
  pub ins_below : (v : ℕ) → IsBelow n (row ins v)
  pub outs_below : (v : ℕ) → IsBelow n (row outs v)
  pub mirrored : (v u way : ℕ) → v < n → IsIn (record { sim = u; way = way }) (row ins v)
      → IsIn (record { sim = v; way = way }) (row outs u)

-- the label is at or before the start and all that comes
pub record IsLow (ins : List (List Arc)) (owns labels : List ℕ) (v : ℕ) : Type 0 where
  pub own : slice_index labels v ≤ slice_index owns v
  pub arcs : (a : Arc) → IsIn a (row ins v) → slice_index labels v ≤ end labels a

-- the label has a reason, if there is one
abbrev pub HasReason : List (List Arc) → List ℕ → List ℕ → ℕ → Type 0
HasReason ins owns labels v = (slice_index labels v ≡ never)
    ⊎ IsHeld (slice_index owns v) (row ins v) labels (slice_index labels v)

-- but for those in the set, labels have reasons
abbrev pub HaveReasons : List (List Arc) → List ℕ → List ℕ → Bits → Type 0
HaveReasons ins owns labels doubted = (v : ℕ) → v < length labels → has doubted v ≡ false
    → HasReason ins owns labels v

-- but for those in the set and for one simulator, labels are low
abbrev pub AreLow : List (List Arc) → List ℕ → List ℕ → ℕ → Bits → Type 0
AreLow ins owns labels skip loose = (v : ℕ) → v < length labels → (v ≡ skip → ⊥)
    → has loose v ≡ false → IsLow ins owns labels v

-- only numbers below n are in the set
abbrev pub IsWithin : ℕ → Bits → Type 0
IsWithin n b = (i : ℕ) → i < 256 → has b i ≡ true → i < n

-- the set has grown
abbrev pub HasGrown : Bits → Bits → Type 0
HasGrown old new = (i : ℕ) → i < 256 → has old i ≡ true → has new i ≡ true

-- but for those in the set, labels are as they were
abbrev pub AreKept : List ℕ → List ℕ → Bits → Type 0
AreKept old new moved = (v : ℕ) → v < length old → has moved v ≡ false
    → slice_index new v ≡ slice_index old v

-- labels are as they were, or there is none now
abbrev pub AreTaken : List ℕ → List ℕ → Type 0
AreTaken old new = (v : ℕ) → v < length old → (slice_index new v ≡ slice_index old v)
    ⊎ (slice_index new v ≡ never)
