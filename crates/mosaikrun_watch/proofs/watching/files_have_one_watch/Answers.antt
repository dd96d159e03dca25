-- Answers to the goals of `watching::files_have_one_watch` that the prover leaves.
use Rattle.mosaikrun_watch.proofs.OneWatch.{one_outcome}
use Rattle.mosaikrun_watch.proofs.watching.files_have_one_watch.Goals as goal

pub returns : goal.returns
returns c = λ names folds recorded spec o p. one_outcome names folds recorded spec o p
