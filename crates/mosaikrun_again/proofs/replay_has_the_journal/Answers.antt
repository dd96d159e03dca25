-- Answers to the goals of `replay_has_the_journal` that the prover leaves.
use Rattle.mosaikrun_again.proofs.Replaying.{replayed}
use Rattle.mosaikrun_again.proofs.replay_has_the_journal.Goals as goal

pub returns : goal.returns
returns c = λ P J K eager within replay. replayed P J K eager within replay
