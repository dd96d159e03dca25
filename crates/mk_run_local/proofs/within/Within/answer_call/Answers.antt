-- Answers to the goals of `within::Within::answer_call` that the prover leaves.
use Rattle.mk_run_local.proofs.Placing.{called, called_of, called_stands, read_there}
use Rattle.mk_run_local.proofs.within.Within.answer_call.Goals as goal

pub invariant_of-self-2 : goal.invariant_of-self-2
invariant_of-self-2 g c = called_stands _ _ _ c.self.view_is _ _ _ (read_there _ _ _ c.self.view_is _ _ _ c.requires.here c.index_mut.ensures.value c.in-Some.is) c.self.invariant _ c.in_ok-reply-in-Some.ensures.after

pub returns-clause-ok : goal.returns-clause-ok
returns-clause-ok g c = called _ _ _ c.self.view_is _ _ _ (read_there _ _ _ c.self.view_is _ _ _ c.requires.here c.index_mut.ensures.value c.in-Some.is) _ _ _ c.in_ok-reply-in-Some.ensures.reply c.in_ok-reply-in-Some.ensures.after

pub returns-clause-kinds : goal.returns-clause-kinds
returns-clause-kinds g c = called_of _ _ _ c.self.view_is _ _ _ (read_there _ _ _ c.self.view_is _ _ _ c.requires.here c.index_mut.ensures.value c.in-Some.is) _ c.in_ok-reply-in-Some.ensures.after
