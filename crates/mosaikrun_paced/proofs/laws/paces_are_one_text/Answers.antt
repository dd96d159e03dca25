-- Answers to the goals of `laws::paces_are_one_text` that the prover leaves.
use Rattle.mosaikrun_paced.proofs.Reporting.{one_text}
use Rattle.mosaikrun_paced.proofs.laws.paces_are_one_text.Goals as goal

pub returns : goal.returns
returns c = one_text c.paces_are_right.ensures
