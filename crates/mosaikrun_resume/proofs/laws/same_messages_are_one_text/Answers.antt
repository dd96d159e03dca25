-- Answers to the goals of `laws::same_messages_are_one_text` that the prover leaves.
use Rattle.mosaikrun_resume.proofs.Reporting.{one_text}
use Rattle.mosaikrun_resume.proofs.laws.same_messages_are_one_text.Goals as goal

pub returns : goal.returns
returns c = one_text
