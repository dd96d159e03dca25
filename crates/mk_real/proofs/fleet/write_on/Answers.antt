-- Answers to the goals of `fleet::write_on` that the prover leaves.
use Rattle.mk_real.proofs.fleet.write_on.Goals as goal

pub returns-in_default : goal.returns-in_default
returns-in_default g c = tt

pub returns-in-Some-socket_at : goal.returns-in-Some-socket_at
returns-in-Some-socket_at g c = c.write.ensures

pub returns-in-None : goal.returns-in-None
returns-in-None g c = tt
