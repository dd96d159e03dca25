-- Answers to the goals of `buffers::Buffers::raise` that the prover leaves.
use Rattle.std.proofs.Common.{arith, ◌≡◌, ◌∙◌, refl, sym, ap, subst, length}
use Rattle.mk_base.specs.Tiers.{IsUpTo}
use Rattle.mk_buffers.specs.Marking.{Marked, IsLeastMark}
use Rattle.mk_buffers.specs.inner.Marking.{Raised}
use Rattle.mk_buffers.proofs.Standing.{all_self, unchanged, thinned_again, stands_thinned, marks_rise}
use Rattle.mk_buffers.proofs.Tight.{swept_at, swept_less, swept_rises, swept_same}
use Rattle.mk_buffers.proofs.buffers.Buffers.raise.Goals as goal

pub loop-sim-init : goal.loop-sim-init
loop-sim-init c = (unchanged c.least-mark.result _, λ s. s)

pub loop-sim-preserved : goal.loop-sim-preserved
loop-sim-preserved c = (thinned_again c.least-mark.result _ c.loop-sim.self c.forget_feed.new.self c.loop-sim.invariant.0 c.forget_feed.ensures.thinned, λ s. c.forget_feed.ensures.swept (c.loop-sim.invariant.1 s))

pub returns-after-loop-sim-clause-stands : goal.returns-after-loop-sim-clause-stands
returns-after-loop-sim-clause-stands c = λ P S s.
    let count : length c.loop-sim.self.feeds.items ≡ length c.args.self.now.feeds.items = (λ k. length (c.loop-sim.invariant.0.feeds k).items) in
    stands_thinned P c.args.self.now c.loop-sim.self S c.least-mark.result c.loop-sim.invariant.0.outlets c.loop-sim.invariant.0.inlets c.loop-sim.invariant.0.homes c.loop-sim.invariant.0.feeds c.loop-sim.invariant.0.sets (ap (λ (m : Marked). length m.marks) c.loop-sim.invariant.0.marks ∙ c.raise.ensures.count) (ap (λ (m : Marked). m.asks) c.loop-sim.invariant.0.marks ∙ c.raise.ensures.asks)
    (subst IsLeastMark (sym c.loop-sim.invariant.0.marks) c.raise.ensures.exact) (λ q low. marks_rise c.args.self.now.marks c.loop-sim.self.marks c.args.sim.0 c.args.at c.raise.result c.requires (subst (Raised c.args.sim.0 c.args.at c.raise.result c.args.self.now.marks) (sym c.loop-sim.invariant.0.marks) c.raise.ensures) q) c.loop-sim.invariant.0.until
    (subst (IsUpTo c.args.self.now.marks.least) (sym c.least-mark.ensures) c.raise.ensures.up) (ap (λ (m : Marked). m.least) c.loop-sim.invariant.0.marks ∙ sym c.least-mark.ensures)
    (swept_at c.loop-sim.self c.least-mark.result c.loop-sim.self.marks.least (length c.loop-sim.self.feeds.items) (ap (λ (m : Marked). m.least) c.loop-sim.invariant.0.marks ∙ sym c.least-mark.ensures)
    (swept_less c.loop-sim.self c.least-mark.result c.loop-sim.sim (length c.loop-sim.self.feeds.items) (omega (arith, c.loop-sim-test.false, c.len-sim-end.ensures, count))
    (c.loop-sim.invariant.1 (swept_same c.args.self.now _ c.least-mark.result 0 refl refl refl refl (swept_rises c.args.self.now c.args.self.now.marks.least c.least-mark.result (length c.args.self.now.feeds.items) (subst (IsUpTo c.args.self.now.marks.least) (sym c.least-mark.ensures) c.raise.ensures.up) s.of_plan.tight))))) s

pub returns-else-raise-clause-stands : goal.returns-else-raise-clause-stands
returns-else-raise-clause-stands c = λ P S s. stands_thinned P c.args.self.now _ S c.raise.new.self.least (all_self c.args.self.now.until c.raise.new.self.least c.args.self.now.outlets.items) refl refl refl refl c.raise.ensures.count c.raise.ensures.asks c.raise.ensures.exact (λ q low. marks_rise c.args.self.now.marks c.raise.new.self c.args.sim.0 c.args.at c.raise.result c.requires c.raise.ensures q) refl c.raise.ensures.up refl
    (swept_at _ c.args.self.now.marks.least c.raise.new.self.least (length c.args.self.now.feeds.items) (c.raise.ensures.same c.if-raise.false) (swept_same c.args.self.now _ c.args.self.now.marks.least (length c.args.self.now.feeds.items) refl refl refl refl s.of_plan.tight)) s
