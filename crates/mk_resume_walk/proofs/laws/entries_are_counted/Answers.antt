-- Answers to the goals of `laws::entries_are_counted` that the prover leaves.
use Rattle.mk_resume_walk.proofs.Indexing.{counted_behind}
use Rattle.mk_resume_walk.proofs.laws.entries_are_counted.Goals as goal

pub returns : goal.returns
returns c = counted_behind
