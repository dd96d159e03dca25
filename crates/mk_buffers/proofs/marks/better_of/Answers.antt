-- Answers to the goals of `marks::better_of` that the prover leaves.
use Rattle.std.proofs.Common.{arith, pos, sym, subst, ap, ◌∙◌, Option, Some, false, ℕ, get_or}
use Rattle.mk_base.specs.declared.tier.Tier.{Tier}
use Rattle.mk_buffers.specs.inner.Marking.{IsBest, IsLeastOf}
use Rattle.mk_buffers.proofs.Marking.{next_best, kept_best}
use Rattle.mk_buffers.proofs.marks.better_of.Goals as goal
use Rattle.mk_base.proofs.Items.{get_default}

pub returns-then-is_up_to : goal.returns-then-is_up_to
returns-then-is_up_to c =
    let start : Tier = record { time = pos 0; tier = 0 } in
    let best : IsLeastOf c.args.marks.now c.args.asks.now c.args.sim c.in-Some.best = subst (λ (o : Option ℕ). IsBest c.args.marks.now c.args.asks.now c.args.sim o) c.in-Some.is c.requires.best in
    next_best c.args.marks.now c.args.asks.now c.args.sim c.in-Some.best (get_or c.args.marks.now c.args.sim start) (get_or c.args.marks.now c.in-Some.best start) (get_default c.args.asks.now c.args.sim false (omega (arith, c.requires.there, c.requires.counts)) ∙ ap Some c.if-not-asks-sim.false) best
    (get_default c.args.marks.now c.args.sim start c.requires.there) (get_default c.args.marks.now c.in-Some.best start (let b = best.below in omega (arith, c.requires.there))) (sym c.if-is_up_to.ensures)

pub returns-else-is_up_to : goal.returns-else-is_up_to
returns-else-is_up_to c =
    let start : Tier = record { time = pos 0; tier = 0 } in
    let best : IsLeastOf c.args.marks.now c.args.asks.now c.args.sim c.in-Some.best = subst (λ (o : Option ℕ). IsBest c.args.marks.now c.args.asks.now c.args.sim o) c.in-Some.is c.requires.best in
    kept_best c.args.marks.now c.args.asks.now c.args.sim c.in-Some.best (get_or c.args.marks.now c.args.sim start) (get_or c.args.marks.now c.in-Some.best start) best
    (get_default c.args.marks.now c.args.sim start c.requires.there) (get_default c.args.marks.now c.in-Some.best start (let b = best.below in omega (arith, c.requires.there))) (sym c.if-is_up_to.ensures)
