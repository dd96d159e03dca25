-- Answers to the goals of `laws::resumed_texts_are_sequential` that the prover leaves.
use Rattle.mosaikrun_resume.proofs.Reporting.{texts_sequential}
use Rattle.mosaikrun_resume.proofs.laws.resumed_texts_are_sequential.Goals as goal

pub returns : goal.returns
returns c = texts_sequential
