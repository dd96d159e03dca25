-- The invariants and measures of the loops of `gathering::put_attributes`.
use Rattle.std.proofs.Common.{◌≡◌, ◌++◌, take}
use Rattle.mk_simapi.specs.inner.Inputs.{inputs_to}
use Rattle.mk_simapi.proofs.gathering.put_attributes.Given as goal

abbrev pub invariant-loop-member : goal.invariant-loop-member
invariant-loop-member l = (l.member-items ≡ l.members) × (l.inputs ≡ l.fn.inputs ++ inputs_to l.eid (take l.member-index l.member-items))
