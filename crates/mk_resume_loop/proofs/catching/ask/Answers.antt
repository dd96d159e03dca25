-- Answers to the goals of `catching::ask` that the prover leaves.
use Rattle.std.proofs.Common.{Some, ap, ◌∙◌}
use Rattle.mk_resume_loop.proofs.AskingAll.{asks_later, asks_now}
use Rattle.mk_resume_loop.proofs.catching.ask.Goals as goal

pub returns-in-Some-clause-asked : goal.returns-in-Some-clause-asked
returns-in-Some-clause-asked g c = asks_later c.args.core.now c.args.sim c.args.crew.now c.args.behind.now _ (c.standing.ensures ∙ ap Some c.in-Some.is)

pub send-requires-clause-due : goal.send-requires-clause-due
send-requires-clause-due g c = c.requires.due (c.standing.ensures ∙ ap Some c.in-None.is)

pub returns-in-None-clause-asked : goal.returns-in-None-clause-asked
returns-in-None-clause-asked g c = asks_now c.args.core.now c.args.sim c.args.crew.now c.args.behind.now c.send.new.crew (c.standing.ensures ∙ ap Some c.in-None.is) c.send.result c.send.ensures.sent c.send.ensures.unsent c.send.ensures.err

pub returns-in-None-clause-still : goal.returns-in-None-clause-still
returns-in-None-clause-still g c = record { places = c.send.ensures.same_places; kinds = c.send.ensures.kinds }
