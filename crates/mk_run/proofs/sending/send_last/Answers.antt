-- Answers to the goals of `sending::send_last` that the prover leaves.
use Rattle.std.proofs.Common.{List, length, sym, ap, ◌∙◌}
use Rattle.mk_plan.specs.declared.Entry.{Entry}
use Rattle.mk_run.proofs.LastItem.{last_sent, last_taken, last_unsent, some_entry}
use Rattle.mk_run.proofs.sending.send_last.Goals as goal

pub overflow_sub-count : goal.overflow_sub-count
overflow_sub-count g c =
    let d = c.requires.due in
    some_entry c.args.core.now c.args.sim c.len-count.result (c.len-count.ensures ∙ ap (λ (J : List Entry). length J) c.journal.ensures.same) d.0 d.1 d.2

pub send_at-requires-clause-due : goal.send_at-requires-clause-due
send_at-requires-clause-due g c = last_taken c.args.core.now c.args.sim c.len-count.result (c.len-count.ensures ∙ ap (λ (J : List Entry). length J) c.journal.ensures.same) c.in-Some.id (sym (c.id_of.ensures.going c.requires.going) ∙ c.in-Some.is) c.args.crew.now c.requires.due

pub returns-clause-sent : goal.returns-clause-sent
returns-clause-sent g c = last_sent c.args.core.now c.args.sim c.len-count.result (c.len-count.ensures ∙ ap (λ (J : List Entry). length J) c.journal.ensures.same) c.in-Some.id (sym (c.id_of.ensures.going c.requires.going) ∙ c.in-Some.is) c.args.crew.now c.send_at.new.crew c.send_at.result c.send_at.ensures.sent

pub returns-clause-unsent : goal.returns-clause-unsent
returns-clause-unsent g c = last_unsent c.args.core.now c.args.sim c.len-count.result (c.len-count.ensures ∙ ap (λ (J : List Entry). length J) c.journal.ensures.same) c.in-Some.id (sym (c.id_of.ensures.going c.requires.going) ∙ c.in-Some.is) c.args.crew.now c.send_at.result c.send_at.ensures.unsent

pub returns-clause-same_places : goal.returns-clause-same_places
returns-clause-same_places g c = c.send_at.ensures.still.places

pub returns-clause-kinds : goal.returns-clause-kinds
returns-clause-kinds g c = c.send_at.ensures.still.kinds
