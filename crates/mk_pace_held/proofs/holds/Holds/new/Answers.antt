-- Answers to the goals of `holds::Holds::new` that the prover leaves.
use Rattle.std.proofs.Common.{◌≡◌, ℕ, List, Option, None, [], ap, replicate, subst, sym, ◌∙◌, arith}
use Rattle.mk_pace_held.specs.declared.held.First.{First}
use Rattle.mk_pace_held.specs.declared.held.Held.{Held}
use Rattle.mk_pace_held.specs.inner.Minima.{AreFirsts}
use Rattle.mk_pace_held.proofs.Changing.{kept_none}
use Rattle.mk_pace_held.proofs.holds.Holds.new.Goals as goal

pub invariant_of-result : goal.invariant_of-result
invariant_of-result c =
    let all : c.loop-sim._sim ≡ c.args.sims = omega (arith, c.loop-sim.auto._sim-end, c.loop-sim-test.false) in
    let queues : c.loop-sim.queues.items ≡ replicate c.args.sims [] = c.loop-sim.invariant ∙ ap (λ (n : ℕ). replicate {A = List Held} n []) all in
    subst (λ (leaves : List (Option First)). AreFirsts leaves c.loop-sim.queues.items) (sym c.in_ok-firsts.ensures)
    (subst (AreFirsts (replicate c.args.sims None)) (sym queues) (kept_none c.args.sims))
