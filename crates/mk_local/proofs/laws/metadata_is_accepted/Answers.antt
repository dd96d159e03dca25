-- Answers to the goals of `laws::metadata_is_accepted` that the prover leaves.
use Rattle.mk_local.proofs.Accepting.{accepted}
use Rattle.mk_local.proofs.laws.metadata_is_accepted.Goals as goal

pub returns : goal.returns
returns c = accepted
