-- The invariants and measures of the loops of `gathering::put_wants`.
use Rattle.std.proofs.Common.{◌≡◌, ◌++◌, take}
use Rattle.mk_simapi.specs.inner.Inputs.{wants_at}
use Rattle.mk_simapi.proofs.gathering.put_wants.Given as goal

abbrev pub invariant-loop-attr : goal.invariant-loop-attr
invariant-loop-attr l = (l.attr-items ≡ l.attrs) × (l.wants ≡ l.fn.wants ++ wants_at l.eid (take l.attr-index l.attr-items))
