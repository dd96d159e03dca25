-- Answers to the goals of `taking::take` that the prover leaves.
use Rattle.std.proofs.Common.{sym, ◌∙◌}
use Rattle.mk_sched.proofs.Standing.{not_same_number}
use Rattle.mk_sched.proofs.Arrived.{taken_pushed}
use Rattle.mk_tiers.proofs.Noting.{noted_none}
use Rattle.mk_sched.proofs.GivingUp.{on_any}
use Rattle.mk_sched.proofs.taking.take.Goals as goal

pub weigh-requires : goal.weigh-requires
weigh-requires c = record { taking = record { derived = c.requires.derived; there = c.requires.there; room = not_same_number _ _ (sym c.is_full.ensures ∙ c.if-is_full.false); form = c.requires.form } }

pub returns-in-Ok-clause-taken : goal.returns-in-Ok-clause-taken
returns-in-Ok-clause-taken c =
    let P = c.args.plan.now in
    let J = c.args.journal.now.entries in
    taken_pushed P J c.args.derived.now c.requires.derived c.args.sim c.args.message c.in-Ok.upshot c.weigh.new.derived c.in-Ok.ensures.leaves c.push_all.result c.push_all.new.journal.entries c.push_all.ensures.ok c.push_all.ensures.err

pub returns-then-is_full-clause-notes : goal.returns-then-is_full-clause-notes
returns-then-is_full-clause-notes c = noted_none c.args.derived.now.agenda.bounds c.args.derived.now.untold

pub returns-in-Ok-clause-notes : goal.returns-in-Ok-clause-notes
returns-in-Ok-clause-notes c = on_any c.push_all.result c.in-Ok.ensures.notes
