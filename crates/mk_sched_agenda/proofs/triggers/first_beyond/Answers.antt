-- Answers to the goals of `triggers::first_beyond` that the prover leaves.
use Rattle.std.proofs.Common.{sym, ◌∙◌}
use Rattle.mk_sched_agenda.proofs.Ending.{first_none, first_some, first_over}
use Rattle.mk_sched_agenda.proofs.triggers.first_beyond.Goals as goal

pub loop-place-preserved : goal.loop-place-preserved
loop-place-preserved c = c.loop-place.invariant ∙ first_none c.args.limits.now c.args.made_at c.args.outlets.now c.args.given.now c.loop-place.place _ _ c.beyond_over.result c.loop-place-test.true c.requires.count c.beyond_over.ensures c.in_default.is

pub returns-in-Some : goal.returns-in-Some
returns-in-Some c = sym (c.loop-place.invariant ∙ first_some c.args.limits.now c.args.made_at c.args.outlets.now c.args.given.now c.loop-place.place _ _ c.beyond_over.result c.in-Some.beyond c.loop-place-test.true c.requires.count c.beyond_over.ensures c.in-Some.is)

pub returns : goal.returns
returns c = sym (c.loop-place.invariant ∙ first_over c.args.limits.now c.args.made_at c.args.outlets.now c.args.given.now c.loop-place.place c.loop-place-test.false)
