-- Answers to the goals of `rests_are_well` that the prover leaves.
use Rattle.mk_resume_links.proofs.Rested.{rests_well}
use Rattle.mk_resume_links.proofs.rests_are_well.Goals as goal

pub returns : goal.returns
returns c = rests_well
