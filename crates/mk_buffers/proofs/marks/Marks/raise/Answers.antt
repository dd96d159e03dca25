-- Answers to the goals of `marks::Marks::raise` that the prover leaves.
use Rattle.std.proofs.Common.{◌∙◌, ◌<◌, arith, subst, sym, List, Bool, length, false, slice_set}
use Rattle.mk_base.specs.declared.tier.Tier.{Tier}
use Rattle.mk_buffers.specs.Marking.{Marked, IsLow}
use Rattle.mk_buffers.specs.inner.Marking.{Raised, HoldsLeast}
use Rattle.mk_buffers.proofs.Marking.{stays, lifted_low, lifted_holds, lifted_else, lifted_then}
use Rattle.mk_base.proofs.Lists.{length_set}
use Rattle.mk_buffers.proofs.marks.Marks.raise.Goals as goal

pub returns-then-is_up_to : goal.returns-then-is_up_to
returns-then-is_up_to c = subst (λ o. Raised c.args.sim c.args.at false o o) c.self.view_is
    (stays c.self.inside.marks.items c.self.inside.asks.items c.self.inside.least c.self.inside.holder c.args.sim c.args.at c.index.result.now c.self.invariant.1 c.self.invariant.2
    (subst (λ (o : Marked). c.args.sim < length o.marks) (sym c.self.view_is) c.requires) c.index.ensures (sym c.is_up_to.ensures ∙ c.if-is_up_to.true))

pub raise_least-requires-clause-low : goal.raise_least-requires-clause-low
raise_least-requires-clause-low c = subst (λ (a : List Bool). IsLow c.as_slice.result.now a c.self.inside.least) (sym c.as_slice-then-sim-self.ensures.value)
    (subst (λ (l : List Tier). IsLow l c.self.inside.asks.items c.self.inside.least) (sym c.as_slice.ensures.value)
    (lifted_low c.self.inside.marks.items c.self.inside.asks.items c.self.inside.least c.self.inside.holder c.args.sim c.args.at c.index.result.now c.self.invariant.1 c.self.invariant.2
    (subst (λ (o : Marked). c.args.sim < length o.marks) (sym c.self.view_is) c.requires) c.index.ensures (sym c.is_up_to.ensures ∙ c.if-is_up_to.false)))

pub invariant_of-self-else-sim-self : goal.invariant_of-self-else-sim-self
invariant_of-self-else-sim-self c =
    let there = subst (λ (o : Marked). c.args.sim < length o.marks) (sym c.self.view_is) c.requires in
    let more = sym c.is_up_to.ensures ∙ c.if-is_up_to.false in (
      length_set c.self.inside.marks.items c.args.sim c.args.at ∙ c.self.invariant.0,
      lifted_low c.self.inside.marks.items c.self.inside.asks.items c.self.inside.least c.self.inside.holder c.args.sim c.args.at c.index.result.now c.self.invariant.1 c.self.invariant.2 there c.index.ensures more,
      lifted_holds c.self.inside.marks.items c.self.inside.asks.items c.self.inside.least c.self.inside.holder c.args.sim c.args.at c.index.result.now c.self.invariant.1 c.self.invariant.2 there c.index.ensures more (λ e. absurd (omega (arith, e, c.if-sim-self.false))),
    )

pub returns-then-sim-self : goal.returns-then-sim-self
returns-then-sim-self c =
    let there = subst (λ (o : Marked). c.args.sim < length o.marks) (sym c.self.view_is) c.requires in
    let more = sym c.is_up_to.ensures ∙ c.if-is_up_to.false in
    subst (λ o. Raised c.args.sim c.args.at c.raise_least.result o (record { marks = slice_set c.self.inside.marks.items c.args.sim c.args.at; asks = c.self.inside.asks.items; least = c.raise_least.new.least })) c.self.view_is
    (lifted_then c.self.inside.marks.items c.self.inside.asks.items c.self.inside.least c.self.inside.holder c.args.sim c.args.at c.index.result.now c.self.invariant.1 c.self.invariant.2 there c.index.ensures more c.raise_least.result c.raise_least.new.least c.raise_least.new.holder
    (subst (λ (l : List Tier). IsLow l c.self.inside.asks.items c.raise_least.new.least) c.as_slice.ensures.value (subst (λ (a : List Bool). IsLow c.as_slice.result.now a c.raise_least.new.least) c.as_slice-then-sim-self.ensures.value c.raise_least.ensures.low))
    (subst (λ (l : List Tier). HoldsLeast l c.self.inside.asks.items c.raise_least.new.least c.raise_least.new.holder) c.as_slice.ensures.value (subst (λ (a : List Bool). HoldsLeast c.as_slice.result.now a c.raise_least.new.least c.raise_least.new.holder) c.as_slice-then-sim-self.ensures.value c.raise_least.ensures.holds))
    c.raise_least.ensures.up c.raise_least.ensures.same)

pub returns-else-sim-self : goal.returns-else-sim-self
returns-else-sim-self c =
    let there = subst (λ (o : Marked). c.args.sim < length o.marks) (sym c.self.view_is) c.requires in
    let more = sym c.is_up_to.ensures ∙ c.if-is_up_to.false in
    subst (λ o. Raised c.args.sim c.args.at false o (record { marks = slice_set c.self.inside.marks.items c.args.sim c.args.at; asks = c.self.inside.asks.items; least = c.self.inside.least })) c.self.view_is
    (lifted_else c.self.inside.marks.items c.self.inside.asks.items c.self.inside.least c.self.inside.holder c.args.sim c.args.at c.index.result.now c.self.invariant.1 c.self.invariant.2 there c.index.ensures more (λ e. absurd (omega (arith, e, c.if-sim-self.false))))
