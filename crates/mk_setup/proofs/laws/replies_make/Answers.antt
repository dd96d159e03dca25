-- Answers to the goals of `laws::replies_make` that the prover leaves.
use Rattle.mk_setup.proofs.laws.replies_make.Goals as goal
use Rattle.mk_setup.proofs.Making.{replies_make}

pub returns : goal.returns
returns c = replies_make
