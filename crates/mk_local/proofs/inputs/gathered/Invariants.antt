-- The invariants and measures of the loops of `inputs::gathered`.
use Rattle.std.proofs.Common.{◌≡◌, length, take}
use Rattle.mk_local.specs.inner.Inputs.{AreTaken}
use Rattle.mk_local.proofs.inputs.gathered.Given as goal

abbrev pub invariant-loop-input : goal.invariant-loop-input
invariant-loop-input l = (l.input-items ≡ l.inputs) × (length l.all ≡ l.count) × AreTaken l.turn (take l.input-index l.input-items) l.all
