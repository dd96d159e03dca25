-- Answers to the goals of `runs_are_readable` that the prover leaves.
use Rattle.mosaikrun_again.proofs.Readable.{runs_are_readable}
use Rattle.mosaikrun_again.proofs.runs_are_readable.Goals as goal

pub returns : goal.returns
returns c = runs_are_readable
