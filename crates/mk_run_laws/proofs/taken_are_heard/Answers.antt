-- Answers to the goals of `taken_are_heard` that the prover leaves.
use Rattle.mk_run_laws.proofs.Taking.{taken_heard, taken_rest}
use Rattle.mk_run_laws.proofs.taken_are_heard.Goals as goal

pub returns : goal.returns
returns c held ms left t = (taken_heard held ms left t, taken_rest held ms left t)
