-- Answers to the goals of `marks::raise_least` that the prover leaves.
use Rattle.std.proofs.Common.{arith, pos, refl, sym, subst, ◌∙◌, get_or, length}
use Rattle.mk_base.specs.declared.tier.Tier.{Tier}
use Rattle.mk_buffers.specs.inner.Marking.{HoldsLeast, IsBest, IsLeastOf}
use Rattle.mk_buffers.proofs.Marking.{low_is, low_least, holds_best, holds_none}
use Rattle.mk_buffers.proofs.marks.raise_least.Goals as goal
use Rattle.mk_base.proofs.Items.{get_default}

pub returns-then-is_up_to-clause-holds : goal.returns-then-is_up_to-clause-holds
returns-then-is_up_to-clause-holds c =
    let start : Tier = record { time = pos 0; tier = 0 } in
    let best : IsLeastOf c.args.marks.now c.args.asks.now (length c.args.marks.now) c.in-Some.place = subst (IsBest c.args.marks.now c.args.asks.now (length c.args.marks.now)) c.in-Some.is c.least_asking.ensures in
    let at = get_default c.args.marks.now c.in-Some.place start best.below in
    subst (λ m. HoldsLeast c.args.marks.now c.args.asks.now m c.in-Some.place) (low_is c.args.marks.now c.args.asks.now (length c.args.marks.now) c.in-Some.place (get_or c.args.marks.now c.in-Some.place start) c.args.least.now best at c.requires.low (sym c.is_up_to.ensures ∙ c.if-is_up_to.true))
    (holds_best c.args.marks.now c.args.asks.now (length c.args.marks.now) c.in-Some.place (get_or c.args.marks.now c.in-Some.place start) best at)

pub returns-else-is_up_to-clause-low : goal.returns-else-is_up_to-clause-low
returns-else-is_up_to-clause-low c =
    let start : Tier = record { time = pos 0; tier = 0 } in
    let best : IsLeastOf c.args.marks.now c.args.asks.now (length c.args.marks.now) c.in-Some.place = subst (IsBest c.args.marks.now c.args.asks.now (length c.args.marks.now)) c.in-Some.is c.least_asking.ensures in
    low_least c.args.marks.now c.args.asks.now (length c.args.marks.now) c.in-Some.place (get_or c.args.marks.now c.in-Some.place start) best refl (get_default c.args.marks.now c.in-Some.place start best.below)

pub returns-else-is_up_to-clause-holds : goal.returns-else-is_up_to-clause-holds
returns-else-is_up_to-clause-holds c =
    let start : Tier = record { time = pos 0; tier = 0 } in
    let best : IsLeastOf c.args.marks.now c.args.asks.now (length c.args.marks.now) c.in-Some.place = subst (IsBest c.args.marks.now c.args.asks.now (length c.args.marks.now)) c.in-Some.is c.least_asking.ensures in
    holds_best c.args.marks.now c.args.asks.now (length c.args.marks.now) c.in-Some.place (get_or c.args.marks.now c.in-Some.place start) best (get_default c.args.marks.now c.in-Some.place start best.below)

pub returns-in-None-clause-holds : goal.returns-in-None-clause-holds
returns-in-None-clause-holds c = holds_none c.args.marks.now c.args.asks.now (length c.args.marks.now) c.args.least.now c.args.holder.now (subst (IsBest c.args.marks.now c.args.asks.now (length c.args.marks.now)) c.in-None.is c.least_asking.ensures) (omega (arith, c.requires.counts))
