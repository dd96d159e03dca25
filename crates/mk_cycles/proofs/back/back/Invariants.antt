-- The invariants and measures of the loops of `back::back`.
use Rattle.std.proofs.Common.{◌≡◌, ℕ, ◌<◌, true}
use Rattle.mk_base.specs.Lists.{IsIn}
use Rattle.mk_cycles.specs.inner.Tables.{leads}
use Rattle.mk_cycles.proofs.back.back.Given as goal

abbrev pub invariant-loop-from : goal.invariant-loop-from
invariant-loop-from l = (p : ℕ) → p < l.from → leads l.table p l.sim ≡ true → IsIn p l.placed.order
