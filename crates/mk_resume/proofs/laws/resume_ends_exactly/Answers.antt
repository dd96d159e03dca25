-- Answers to the goals of `laws::resume_ends_exactly` that the prover leaves.
use Rattle.mk_resume.proofs.OneOther.{ends_exactly}
use Rattle.mk_resume.proofs.laws.resume_ends_exactly.Goals as goal

pub returns : goal.returns
returns c = ends_exactly
