-- Answers to the goals of `triggers::bring` that the prover leaves.
use Rattle.std.proofs.Common.{◌≡◌, true, false, ◌&&◌, sym, ap, ◌∙◌, subst}
use Rattle.mk_base.specs.declared.tier.Tier.{Tier}
use Rattle.mk_base.specs.Tiers.{delayed}
use Rattle.mk_plan.specs.Plans.{owner}
use Rattle.mk_order.proofs.Entries.{Brings}
use Rattle.mk_sched_agenda.specs.inner.Dues.{is_inside}
use Rattle.mk_sched_agenda.proofs.Ending.{come_more, come_apart, brought_by, not_brought}
use Rattle.mk_tiers.proofs.Noting.{noted_none}
use Rattle.mk_sched_agenda.proofs.triggers.bring.Goals as goal

pub returns-in_ok-trigger-clause-come : goal.returns-in_ok-trigger-clause-come
returns-in_ok-trigger-clause-come c = λ P V s f cs e is m given at limits kept h.
    let L = c.args.limits.now in
    let on : (c.args.given && is_inside L (delayed c.args.made_at c.args.outlet.now.via)) ≡ true = ap (λ (y : Tier). c.args.given && is_inside L y) (sym c.after-at.ensures) ∙ sym c.is_brought.ensures ∙ c.if-is_brought.true in
    let b : Brings P s f (owner P e.to) c.after-at.result e = subst (λ (y : Tier). Brings P s f (owner P e.to) y e) (sym c.after-at.ensures) (brought_by P s f L c.args.outlet.now e c.args.made_at c.args.given is m given at limits on) in
    come_more P V s f false cs e c.after-at.result c.args.outlet.now.to.0 is.to b c.args.dues.now.queues.items c.trigger.new.self.queues.items c.args.dues.now.opened c.args.dues.now.bounds c.trigger.new.self.bounds c.requires.tidy c.requires.to h
    c.in_ok-trigger.ensures.queues c.in_ok-trigger.ensures.bounds (c.trigger.ensures.plan P h.plan)

pub returns-else-is_brought-clause-come : goal.returns-else-is_brought-clause-come
returns-else-is_brought-clause-come c = λ P V s f cs e is m given at limits kept h.
    let L = c.args.limits.now in
    let off : (c.args.given && is_inside L (delayed c.args.made_at c.args.outlet.now.via)) ≡ false = ap (λ (y : Tier). c.args.given && is_inside L y) (sym c.after-at.ensures) ∙ sym c.is_brought.ensures ∙ c.if-is_brought.false in
    come_apart P V s f false cs e (not_brought P s f L c.args.outlet.now e c.args.made_at c.args.given kept is given at limits off) c.args.dues.now.queues.items c.args.dues.now.bounds h

pub returns-else-is_brought-clause-noted : goal.returns-else-is_brought-clause-noted
returns-else-is_brought-clause-noted c = noted_none c.args.dues.now.bounds c.args.noted.now
