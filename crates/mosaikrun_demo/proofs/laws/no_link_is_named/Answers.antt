-- Answers to the goals of `laws::no_link_is_named` that the prover leaves.
use Rattle.mosaikrun_demo.proofs.NoLinks.{outcome_not}
use Rattle.mosaikrun_demo.proofs.laws.no_link_is_named.Goals as goal

pub returns : goal.returns
returns c = λ O size sim fault. outcome_not sim fault O size
