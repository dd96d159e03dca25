-- Answers to the goals of `laws::within_is_one_text` that the prover leaves.
use Rattle.mosaikrun_run.proofs.OneText.{one_text}
use Rattle.mosaikrun_run.proofs.laws.within_is_one_text.Goals as goal

pub returns : goal.returns
returns c = one_text c.kinds_fit.ensures
