-- Answers to the goals of `places_are_links` that the prover leaves.
use Rattle.mk_run_laws.proofs.Starting.{place_is}
use Rattle.mk_run_laws.proofs.places_are_links.Goals as goal

pub returns : goal.returns
returns c started S i within = place_is started S.sims i within
