-- Answers to the goals of `within::Within::answer_item` that the prover leaves.
use Rattle.std.proofs.Common.{ap, map, refl}
use Rattle.mk_run_local.specs.Seen.{arrival}
use Rattle.mk_run_local.proofs.Placing.{answered, answered_of, answered_stands, read_there}
use Rattle.mk_run_local.proofs.within.Within.answer_item.Goals as goal

pub invariant_of-self-2 : goal.invariant_of-self-2
invariant_of-self-2 g c = answered_stands _ _ _ c.self.view_is _ _ _ (read_there _ _ _ c.self.view_is _ _ _ c.requires.here c.index_mut.ensures.value c.in-Some.is)
    c.args.sim refl _ _ _ c.in_ok-reply-in-Some.ensures.reply c.in_ok-reply-in-Some.ensures.after _ _ (ap (map arrival) c.in_ok-reserve.ensures.items) c.in-Ok.ensures.items c.self.invariant

pub returns-clause-ok : goal.returns-clause-ok
returns-clause-ok g c = answered _ _ _ c.self.view_is _ _ _ (read_there _ _ _ c.self.view_is _ _ _ c.requires.here c.index_mut.ensures.value c.in-Some.is)
    c.args.sim refl _ _ _ c.in_ok-reply-in-Some.ensures.reply c.in_ok-reply-in-Some.ensures.after _ _ (ap (map arrival) c.in_ok-reserve.ensures.items) c.in-Ok.ensures.items

pub returns-clause-kinds : goal.returns-clause-kinds
returns-clause-kinds g c = answered_of _ _ _ c.self.view_is _ _ _ (read_there _ _ _ c.self.view_is _ _ _ c.requires.here c.index_mut.ensures.value c.in-Some.is)
    c.args.sim refl _ _ _ c.in_ok-reply-in-Some.ensures.reply c.in_ok-reply-in-Some.ensures.after _ _ (ap (map arrival) c.in_ok-reserve.ensures.items) c.in-Ok.ensures.items
