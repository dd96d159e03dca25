-- Answers to the goals of `fleet::read_on` that the prover leaves.
use Rattle.std.proofs.Common.{refl}
use Rattle.mk_real.proofs.fleet.read_on.Goals as goal

pub returns-in_default : goal.returns-in_default
returns-in_default g c = refl

pub returns-in-Some-socket_at : goal.returns-in-Some-socket_at
returns-in-Some-socket_at g c = c.read.ensures

pub returns-in-None : goal.returns-in-None
returns-in-None g c = refl
