-- The delay is none of those before the place.
use Rattle.std.proofs.Common.{◌≡◌, ℕ, ◌<◌, slice_get, Some}
use Rattle.mk_base.specs.declared.tier.Via.{Via}
use Rattle.mk_buffers.proofs.outlets.has_via.Given as goal

abbrev pub invariant-loop-old : goal.invariant-loop-old
invariant-loop-old l = (k : ℕ) (v : Via) → k < l.old-index → slice_get l.vias k ≡ Some v → v ≡ l.via → ⊥
