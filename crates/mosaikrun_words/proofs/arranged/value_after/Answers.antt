-- Answers to the goals of `arranged::value_after` that the prover leaves.
use Rattle.mosaikrun_words.proofs.Spelled.{after_found}
use Rattle.mosaikrun_words.proofs.arranged.value_after.Goals as goal

pub returns : goal.returns
returns c = after_found c.args.start.now c.args.word.now c.stripped.result c.stripped.ensures
