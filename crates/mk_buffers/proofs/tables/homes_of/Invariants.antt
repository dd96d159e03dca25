-- The invariants and measures of the loops of `tables::homes_of`.
use Rattle.std.proofs.Common.{◌≡◌, ℕ, length, Some, slice_get}
use Rattle.mk_plan.specs.Plans.{owner, eid_of}
use Rattle.mk_buffers.specs.declared.buffers.Home.{Home}
use Rattle.mk_buffers.proofs.tables.homes_of.Given as goal

abbrev pub invariant-loop-place : goal.invariant-loop-place
invariant-loop-place l = (length l.homes.items ≡ l.place) × ((e : ℕ) (h : Home) → slice_get l.homes.items e ≡ Some h → (slice_get l.outlets e ≡ Some h.outlets) × (h.sim ≡ owner l.plan e) × (h.eid ≡ eid_of l.plan e))
