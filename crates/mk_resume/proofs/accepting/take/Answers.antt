-- Answers to the goals of `accepting::take` that the prover leaves.
use Rattle.mk_resume.proofs.accepting.take.Goals as goal

pub returns-in-Ok : goal.returns-in-Ok
returns-in-Ok c = c.told.ensures c.args.plan c.args.saved c.requires.same c.in-Ok.ensures
