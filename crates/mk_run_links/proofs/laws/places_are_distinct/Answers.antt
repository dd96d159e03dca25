-- Answers to the goals of `laws::places_are_distinct` that the prover leaves.
use Rattle.mk_run_links.proofs.Beginning.{places_distinct}
use Rattle.mk_run_links.proofs.laws.places_are_distinct.Goals as goal

pub returns : goal.returns
returns c started sims = places_distinct started sims
