-- Answers to the goals of `sending::is_behind` that the prover leaves.
use Rattle.mk_pace_loop.proofs.SendSteps.{behind_next, behind_none}
use Rattle.mk_pace_loop.proofs.sending.is_behind.Goals as goal

pub returns-in-Some-clause-next : goal.returns-in-Some-clause-next
returns-in-Some-clause-next c = behind_next c.args.waiting.now.holds c.args.sim.0 c.in-Some.held c.is_none.result c.in-Some.ensures c.is_none.ensures

pub returns-in-Some-clause-none : goal.returns-in-Some-clause-none
returns-in-Some-clause-none c = behind_none c.args.waiting.now.holds c.args.sim.0 c.in-Some.held c.is_none.result c.in-Some.ensures c.is_none.ensures
