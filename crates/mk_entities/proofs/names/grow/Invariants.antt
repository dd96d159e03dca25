-- The invariants and measures of the loops of `names::grow`.
use Rattle.std.proofs.Common.{◌≡◌, ℕ, ◌+◌, ◌-◌, length}
use Rattle.mk_entities.specs.inner.Tied.{names_at}
use Rattle.mk_entities.proofs.names.grow.Given as goal

abbrev pub invariant-loop-alloc : goal.invariant-loop-alloc
invariant-loop-alloc l = (s : ℕ) → names_at l.names.items s ≡ names_at l.initial.names.items s

abbrev pub decreases-loop-alloc : goal.decreases-loop-alloc
decreases-loop-alloc l = l.place + 1 - length l.names.items
