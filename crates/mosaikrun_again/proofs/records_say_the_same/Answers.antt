-- Answers to the goals of `records_say_the_same` that the prover leaves.
use Rattle.mosaikrun_again.proofs.Saved.{records_say_the_same}
use Rattle.mosaikrun_again.proofs.records_say_the_same.Goals as goal

pub returns : goal.returns
returns c = records_say_the_same
