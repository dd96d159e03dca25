-- Answers to the goals of `rests_are_well` that the prover leaves.
use Rattle.mk_run_laws.proofs.Resting.{rests_well}
use Rattle.mk_run_laws.proofs.rests_are_well.Goals as goal

pub returns : goal.returns
returns c = rests_well
