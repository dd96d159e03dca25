-- Answers to the goals of `catching::send` that the prover leaves.
use Rattle.std.proofs.Common.{refl}
use Rattle.mk_resume_loop.proofs.catching.send.Goals as goal

pub returns-in-Err-clause-unsent : goal.returns-in-Err-clause-unsent
returns-in-Err-clause-unsent g c = λ item id e. (c.in-Err.outcome, refl, c.in-Err.ensures.unsent item id e)
