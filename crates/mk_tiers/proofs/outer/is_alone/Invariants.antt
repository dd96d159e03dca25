-- The invariants and measures of the loops of `outer::is_alone`.
use Rattle.std.proofs.Common.{◌≡◌, ℕ, ◌<◌, slice_index}
use Rattle.mk_tiers.specs.Times.{never}
use Rattle.mk_tiers.proofs.outer.is_alone.Given as goal

abbrev pub invariant-loop-other : goal.invariant-loop-other
invariant-loop-other l = (v : ℕ) → v < l.other → (v ≡ l.sim → ⊥) → slice_index l.owns v ≡ never
