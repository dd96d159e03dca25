-- Answers to the goals of `closing::close_place` that the prover leaves.
use Rattle.mk_run_links.proofs.Beginning.{closed_nothing, closed_place}
use Rattle.mk_outside.proofs.OnLogs.{adds_none}
use Rattle.mk_run_links.proofs.closing.close_place.Goals as goal

pub returns-in-Some-clause-closed : goal.returns-in-Some-clause-closed
returns-in-Some-clause-closed g c = closed_place c.args.place.now c.in-Some.link _ _ c.in-Some.is c.close.ensures.closed

pub returns-in-None-clause-closed : goal.returns-in-None-clause-closed
returns-in-None-clause-closed g c = closed_nothing c.args.place.now _ c.in-None.is

pub returns-in-None-clause-logged : goal.returns-in-None-clause-logged
returns-in-None-clause-logged g c = adds_none _
