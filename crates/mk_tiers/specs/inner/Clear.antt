-- For proofs alone. Who is clear: has a start, isn't busy, and whatever it waits for comes later.
use Rattle.std.specs.Prelude.{◌≡◌, ℕ, Bool, true, false, List, slice_index, slice_index_or}
use Rattle.mk_tiers.specs.declared.arcs.Arc.{Arc}
use Rattle.mk_tiers.specs.declared.bits.Bits.{Bits}
use Rattle.mk_tiers.specs.Sets.{has}
use Rattle.mk_tiers.specs.Times.{never}
use Rattle.mk_tiers.specs.Arcs.{row}
use Rattle.mk_tiers.specs.inner.Arcs.{IsFree}

-- the simulator is clear
pub record IsClearAt (waits : List (List Arc)) (owns labels : List ℕ) (busy : List Bool)
    (v : ℕ) : Type 0 where
  pub some : slice_index owns v ≡ never → ⊥
  pub idle : slice_index_or busy v false ≡ false
  pub free : IsFree (row waits v) labels (slice_index owns v)

-- the set says whether the simulator is clear
pub record IsMarkedClear (waits : List (List Arc)) (owns labels : List ℕ) (busy : List Bool)
    (ready : Bits)
    (v : ℕ) : Type 0 where
  pub here : has ready v ≡ true → IsClearAt waits owns labels busy v
  pub not_here : has ready v ≡ false → IsClearAt waits owns labels busy v → ⊥
