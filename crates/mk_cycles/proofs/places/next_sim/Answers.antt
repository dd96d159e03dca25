-- Answers to the goals of `places::next_sim` that the prover leaves.
use Rattle.std.proofs.Common.{◌≡◌, ℕ, inl, inr, arith, sym, subst, ◌∙◌}
use Rattle.std.proofs.lemmas.Bool.{cases_lt, false≢true}
use Rattle.mk_cycles.specs.Orders.{MayFollow}
use Rattle.mk_cycles.specs.inner.Tables.{leads}
use Rattle.mk_cycles.proofs.places.next_sim.Goals as goal

pub returns-then-may_follow : goal.returns-then-may_follow
returns-then-may_follow c = (
  c.may_follow.ensures.0 c.if-may_follow.true,
  λ t may. elim (cases_lt t c.loop-sim.sim) [
    | inl under ↦ absurd (c.loop-sim.invariant t under may)
    | inr past ↦ past
  ],
)

pub loop-sim-preserved : goal.loop-sim-preserved
loop-sim-preserved c t under may =
    elim (cases_lt t c.loop-sim.sim) [
      | inl earlier ↦ c.loop-sim.invariant t earlier may
      | inr now ↦
          let same : t ≡ c.loop-sim.sim = omega arith in
          let P : ℕ → Type 0 = λ s. MayFollow (leads c.args.table.now) c.args.table.now.sims c.args.placed.now.order s in
          false≢true (sym c.if-may_follow.false ∙ c.may_follow.ensures.1 (subst P same may))
    ]

pub returns : goal.returns
returns c s may = c.loop-sim.invariant s (omega (arith, may.0, c.sims-sim-end.ensures.sims, c.loop-sim-test.false)) may
