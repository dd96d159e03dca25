-- Answers to the goals of `laws::done_resumed_runs_are_runs` that the prover leaves.
use Rattle.mk_resume.proofs.DoneRuns.{done_runs}
use Rattle.mk_resume.proofs.laws.done_resumed_runs_are_runs.Goals as goal

pub returns : goal.returns
returns c = done_runs
