-- For proofs alone. The least of what comes to a simulator from others.
use Rattle.std.specs.Prelude.{◌≡◌, ℕ, ◌<◌, ◌≤◌, Bool, true, false, List, length, ◌⊎◌, slice_index, ℤ, Option, option_map}
use Rattle.mk_base.specs.declared.tier.Tier.{Tier}
use Rattle.mk_base.specs.Lists.{IsIn}
use Rattle.mk_tiers.specs.declared.arcs.Arc.{Arc}
use Rattle.mk_tiers.specs.declared.net.Net.{Net}
use Rattle.mk_tiers.specs.inner.Arcs.{end, IsLow, HasReason}
use Rattle.mk_tiers.specs.Times.{never, unpacked}

-- the least of what comes over these arcs, but for the simulator's own
pub record IsLeastOuter (into : List Arc) (labels : List ℕ) (sim least : ℕ) : Type 0 where
  pub arcs : (a : Arc) → IsIn a into → (a.sim ≡ sim → ⊥) → least ≤ end labels a
  pub reason : (least ≡ never)
      ⊎ ((a : Arc) × IsIn a into × (a.sim ≡ sim → ⊥) × (least ≡ end labels a))

-- labels of walks that don't touch the simulator
pub record IsWithoutSim (net : Net) (owns : List ℕ) (sim : ℕ) (labels : List ℕ) : Type 0 where
  pub reasons : (v : ℕ) → v < length owns → HasReason net.triggers.ins owns labels v
  pub low : (v : ℕ) → v < length owns → (v ≡ sim → ⊥) → IsLow net.triggers.ins owns labels v
  pub skipped : slice_index labels sim ≡ never
  pub fits : (i : ℕ) → slice_index labels i ≤ never

-- no simulator but this one has a start
abbrev pub IsAlone : List ℕ → ℕ → Type 0
IsAlone owns sim = (v : ℕ) → v < length owns → (v ≡ sim → ⊥) → slice_index owns v ≡ never

-- where nothing comes back, the labels themselves; else those of walks that don't touch the
-- simulator
abbrev pub IsUsed : Net → List ℕ → List ℕ → Bool → ℕ → List ℕ → Type 0
IsUsed net owns labels false sim used = used ≡ labels
IsUsed net owns labels true sim used = IsWithoutSim net owns sim used

-- the time alone
abbrev pub time_of : ℕ → Option ℤ
time_of n = option_map (λ (x : Tier). x.time) (unpacked n)
