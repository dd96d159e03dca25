-- Answers to the goals of `laws::paced_texts_are_sequential` that the prover leaves.
use Rattle.mosaikrun_paced.proofs.Reporting.{texts_sequential}
use Rattle.mosaikrun_paced.proofs.laws.paced_texts_are_sequential.Goals as goal

pub returns : goal.returns
returns c = texts_sequential c.paces_are_right.ensures
