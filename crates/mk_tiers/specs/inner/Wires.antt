-- For proofs alone. Links with numbers for their delays, and the arcs that are left of them.
use Rattle.std.specs.Prelude.{◌≡◌, ℕ, ◌+◌, ◌*◌, ◌<◌, ◌≤◌, List, length, ◌⊎◌, slice_index}
use Rattle.mk_base.specs.Lists.{IsIn}
use Rattle.mk_plan.specs.Plans.{Link}
use Rattle.mk_tiers.specs.declared.arcs.Arc.{Arc}
use Rattle.mk_tiers.specs.declared.wires.Wire.{Wire}
use Rattle.mk_tiers.specs.Times.{way_of}
use Rattle.mk_tiers.specs.Arcs.{row}

-- the link with the number of its delay
abbrev pub wire_of : Link → Wire
wire_of l = record { from = l.from; way = way_of l.via; to = l.to }

-- the other way round
abbrev pub turned : Wire → Wire
turned w = record { from = w.to; way = w.way; to = w.from }

-- no link
abbrev pub none : ℕ
none = 4294967295

-- between n simulators, with delays that are there
abbrev pub AreBetween : ℕ → List Wire → Type 0
AreBetween n wires = (w : Wire) → IsIn w wires → (w.from < n) × (w.to < n) × (w.way < none)

-- row by row for each target, the least delays from each source
pub record IsTable (n : ℕ) (wires : List Wire) (table : List ℕ) : Type 0 where
  pub area : length table ≡ n * 256
  pub low : (w : Wire) → IsIn w wires → slice_index table (w.to * 256 + w.from) ≤ w.way
  pub held : (to from : ℕ) → to < n → from < n → (slice_index table (to * 256 + from) ≡ none)
      ⊎ ((w : Wire) × IsIn w wires × (w.from ≡ from) × (w.to ≡ to)
      × (w.way ≡ slice_index table (to * 256 + from)))

-- a is what the table says of a source below m and this target
pub record IsArcOf (table : List ℕ) (m to : ℕ) (a : Arc) : Type 0 where
  pub below : a.sim < m
  pub way : slice_index table (to * 256 + a.sim) ≡ a.way
  pub there : a.way ≡ none → ⊥

-- the arcs that the table says of the sources below m
pub record IsRow (table : List ℕ) (m to : ℕ) (arcs : List Arc) : Type 0 where
  pub sound : (a : Arc) → IsIn a arcs → IsArcOf table m to a
  pub whole : (a : Arc) → IsArcOf table m to a → IsIn a arcs

-- the wires, at most one for each pair of simulators, one that delays least
pub record IsCollapsed (n : ℕ) (wires : List Wire) (rows : List (List Arc)) : Type 0 where
  pub count : length rows ≡ n
  pub below : (v : ℕ) (a : Arc) → IsIn a (row rows v) → (v < n) × (a.sim < n)
  pub sound : (v : ℕ) (a : Arc) → IsIn a (row rows v) → (w : Wire) × IsIn w wires × (w.from ≡ a.sim)
      × (w.to ≡ v) × (w.way ≡ a.way)
  pub whole : (w : Wire) → IsIn w wires → (a : Arc) × IsIn a (row rows w.to) × (a.sim ≡ w.from)
      × (a.way ≤ w.way)
  pub least : (v : ℕ) (a : Arc) (w : Wire) → IsIn a (row rows v) → IsIn w wires → w.from ≡ a.sim
      → w.to ≡ v → a.way ≤ w.way
