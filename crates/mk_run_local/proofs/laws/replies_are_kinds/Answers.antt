-- Answers to the goals of `laws::replies_are_kinds` that the prover leaves.
use Rattle.mk_run_local.proofs.Following.{replies_kinds}
use Rattle.mk_run_local.proofs.laws.replies_are_kinds.Goals as goal

pub returns : goal.returns
returns c = replies_kinds
