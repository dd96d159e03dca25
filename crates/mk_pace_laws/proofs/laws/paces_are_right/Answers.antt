-- Answers to the goals of `laws::paces_are_right` that the prover leaves.
use Rattle.mk_pace_laws.proofs.PacesRight.{paces_right}
use Rattle.mk_pace_laws.proofs.laws.paces_are_right.Goals as goal

pub returns : goal.returns
returns c = paces_right
