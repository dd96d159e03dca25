-- Answers to the goals of `laws::alike_is_one_text` that the prover leaves.
use Rattle.mosaikrun_run.proofs.OneText.{alike_text}
use Rattle.mosaikrun_run.proofs.laws.alike_is_one_text.Goals as goal

pub returns : goal.returns
returns c = alike_text
