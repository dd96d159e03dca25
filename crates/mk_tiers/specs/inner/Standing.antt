-- For proofs alone. Beside `Standing`, which has what a reader needs.
use Rattle.std.specs.Prelude.{◌≡◌, ℕ, ◌<◌, ◌≤◌, Bool, true, false, List, length, slice_index, slice_index_or, Option, Some, None}
use Rattle.mk_base.specs.declared.tier.Tier.{Tier}
use Rattle.mk_tiers.specs.declared.bits.Bits.{Bits}
use Rattle.mk_tiers.specs.declared.net.Net.{Net}
use Rattle.mk_tiers.specs.inner.Arcs.{IsNet, HasReason, IsLow, IsWithin}
use Rattle.mk_tiers.specs.inner.Clear.{IsMarkedClear}
use Rattle.mk_tiers.specs.inner.Levels.{IsApart}
use Rattle.mk_tiers.specs.Times.{never}
use Rattle.mk_tiers.specs.inner.Times.{packed, IsStart}

-- the number of a start
abbrev pub own_number : Option Tier → ℕ
own_number None = never
own_number (Some x) = packed x

-- the arcs are nets between n simulators
pub record AreNets (n : ℕ) (net : Net) : Type 0 where
  pub triggers : IsNet n net.triggers.ins net.triggers.outs
  pub waits : IsNet n net.waits.ins net.waits.outs

-- the labels fit the starts, and the set says who is clear
pub record AreLabelled (net : Net) (owns labels : List ℕ) (busy : List Bool)
    (ready : Bits) : Type 0 where
  pub nets : AreNets (length owns) net
  pub labels_count : length labels ≡ length owns
  pub busy_count : length busy ≡ length owns
  pub starts : (v : ℕ) → v < length owns → IsStart (slice_index owns v)
  pub reasons : (v : ℕ) → v < length owns → HasReason net.triggers.ins owns labels v
  pub low : (v : ℕ) → v < length owns → IsLow net.triggers.ins owns labels v
  pub fits : (i : ℕ) → slice_index labels i ≤ never
  pub within : IsWithin (length owns) ready
  pub said : (v : ℕ) → v < length owns → IsMarkedClear net.waits.ins owns labels busy ready v

-- to a simulator that isn't marked nothing of its own comes back over others
abbrev pub IsLoopedIn : ℕ → Net → List Bool → Type 0
IsLoopedIn n net looped = (v : ℕ) → v < n → slice_index_or looped v true ≡ false
    → IsApart net.triggers.ins v
