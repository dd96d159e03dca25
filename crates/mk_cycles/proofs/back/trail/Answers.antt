-- Answers to the goals of `back::trail` that the prover leaves.
use Rattle.std.proofs.Common.{ℕ, arith}
use Rattle.mk_cycles.specs.Cycles.{IsBack, IsGoneBackTo, at_least, further}
use Rattle.mk_cycles.specs.inner.Tables.{leads}
use Rattle.mk_cycles.proofs.Chains.{chain_push}
use Rattle.mk_cycles.proofs.Loops.{reached_left}
use Rattle.mk_cycles.proofs.back.trail.Goals as goal
use Rattle.mk_base.proofs.Items.{each_behind}

pub going-init : goal.going-init
going-init c =
    rw c.in_ok-path.ensures record {
      count = c.sims.ensures.sims;
      here = at_least c.args.start c.requires.left c.requires.least;
      reached = tt;
      chain = tt;
    }

pub push-requires-clause-below : goal.push-requires-clause-below
push-requires-clause-below c =
    let left = reached_left _ _ _ c.going.sim c.going.invariant.here in
    omega (arith, left.0, c.going.invariant.count)

pub back-sim-requires-clause-left : goal.back-sim-requires-clause-left
back-sim-requires-clause-left c = reached_left _ _ _ c.going.sim c.going.invariant.here

pub back-sim-requires-clause-stuck : goal.back-sim-requires-clause-stuck
back-sim-requires-clause-stuck c = c.requires.stuck c.going.sim

pub going-preserved : goal.going-preserved
going-preserved c =
    let t = c.args.table.now in
    let order = c.args.placed.now.order in
    let R : ℕ → ℕ → Type 0 = λ s p. IsBack (leads t) t.sims order s p in
    let P : ℕ → Type 0 = λ s. IsGoneBackTo (leads t) t.sims order s in
    rw c.in_ok-push.ensures.ok record {
      count = c.going.invariant.count;
      here = further c.going.sim c.back-sim.result c.going.invariant.here c.back-sim.ensures;
      reached = each_behind P c.going.path.order c.going.sim c.going.invariant.reached c.going.invariant.here;
      chain = chain_push R c.going.path.order c.going.sim c.back-sim.result c.going.invariant.chain c.back-sim.ensures;
    }
