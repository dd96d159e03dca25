-- For proofs alone. Levels that no arc lowers, and simulators to which nothing of theirs comes
-- back.
use Rattle.std.specs.Prelude.{◌≡◌, ℕ, ◌<◌, ◌≤◌, ◌&&◌, ◌||◌, List, slice_index}
use Rattle.mk_base.specs.Lists.{IsIn}
use Rattle.mk_tiers.specs.declared.arcs.Arc.{Arc}
use Rattle.mk_tiers.specs.declared.bits.Bits.{Bits}
use Rattle.mk_tiers.specs.Sets.{has}
use Rattle.mk_tiers.specs.Arcs.{row}

-- what was in the one set is in it now, and what was in the other, if the one had m
abbrev pub IsJoined : ℕ → Bits → Bits → Bits → Type 0
IsJoined m one other now = (i : ℕ) → i < 256 → has now i ≡ has one i || (has one m && has other i)

-- no arc leads down
abbrev pub Rise : List (List Arc) → List ℕ → Type 0
Rise ins levels = (v : ℕ) (a : Arc) → IsIn a (row ins v)
    → slice_index levels a.sim ≤ slice_index levels v

-- whatever leads to s from another one is below it
abbrev pub IsAbove : List (List Arc) → List ℕ → ℕ → Type 0
IsAbove ins levels s = (a : Arc) → IsIn a (row ins s) → (a.sim ≡ s → ⊥)
    → slice_index levels a.sim < slice_index levels s

-- by some levels nothing of s comes back to it over others
abbrev pub IsApart : List (List Arc) → ℕ → Type 0
IsApart ins s = (levels : List ℕ) × Rise ins levels × IsAbove ins levels s
