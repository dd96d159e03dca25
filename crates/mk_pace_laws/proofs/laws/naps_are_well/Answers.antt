-- Answers to the goals of `laws::naps_are_well` that the prover leaves.
use Rattle.mk_pace_laws.proofs.Napping.{naps_well}
use Rattle.mk_pace_laws.proofs.laws.naps_are_well.Goals as goal

pub returns : goal.returns
returns c = naps_well
