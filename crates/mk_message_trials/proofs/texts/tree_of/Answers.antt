-- Answers to the goals of `texts::tree_of` that the prover leaves.
use Rattle.std.proofs.Common.{refl}
use Rattle.mk_base.proofs.OnTrees.{trees_compute}
use Rattle.mk_message_trials.proofs.texts.tree_of.Goals as goal

pub returns-in-Err : goal.returns-in-Err
unfolding trees_compute
returns-in-Err c = refl
