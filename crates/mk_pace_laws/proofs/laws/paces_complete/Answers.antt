-- Answers to the goals of `laws::paces_complete` that the prover leaves.
use Rattle.mk_pace_laws.proofs.Completing.{completes}
use Rattle.mk_pace_laws.proofs.laws.paces_complete.Goals as goal

pub returns : goal.returns
returns c = completes
