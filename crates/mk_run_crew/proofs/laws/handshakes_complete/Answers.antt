-- Answers to the goals of `laws::handshakes_complete` that the prover leaves.
use Rattle.mk_run_crew.proofs.Completing.{completes}
use Rattle.mk_run_crew.proofs.laws.handshakes_complete.Goals as goal

pub returns : goal.returns
returns c = completes
