-- The invariants and measures of the loops of `gathering::put_sources`.
use Rattle.std.proofs.Common.{◌≡◌, ◌++◌, take}
use Rattle.mk_simapi.specs.inner.Inputs.{inputs_at}
use Rattle.mk_simapi.proofs.gathering.put_sources.Given as goal

abbrev pub invariant-loop-member : goal.invariant-loop-member
invariant-loop-member l = (l.member-items ≡ l.members) × (l.inputs ≡ l.fn.inputs ++ inputs_at l.eid l.attr (take l.member-index l.member-items))
