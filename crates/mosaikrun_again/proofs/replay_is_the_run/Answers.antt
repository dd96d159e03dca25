-- Answers to the goals of `replay_is_the_run` that the prover leaves.
use Rattle.mosaikrun_again.proofs.Replaying.{replays_are_runs}
use Rattle.mosaikrun_again.proofs.replay_is_the_run.Goals as goal

pub returns : goal.returns
returns c = replays_are_runs
