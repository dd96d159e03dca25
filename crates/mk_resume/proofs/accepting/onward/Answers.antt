-- Answers to the goals of `accepting::onward` that the prover leaves.
use Rattle.mk_resume.proofs.accepting.onward.Goals as goal

pub returns-in-Err : goal.returns-in-Err
returns-in-Err c plan saved plans on = c.given_up.ensures plan saved plans
