-- Answers to the goals of `replay_says_the_same` that the prover leaves.
use Rattle.mosaikrun_again.proofs.Saying.{replays_say_the_same}
use Rattle.mosaikrun_again.proofs.replay_says_the_same.Goals as goal

pub returns : goal.returns
returns c = replays_say_the_same
