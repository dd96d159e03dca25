-- Answers to the goals of `laws::texts_are_sequential` that the prover leaves.
use Rattle.mosaikrun_run.proofs.Reporting.{texts_sequential}
use Rattle.mosaikrun_run.proofs.laws.texts_are_sequential.Goals as goal

pub returns : goal.returns
returns c = texts_sequential
