-- Answers to the goals of `outlets::parts_of` that the prover leaves.
use Rattle.std.proofs.Common.{◌≡◌, arith, subst}
use Rattle.mk_buffers.specs.inner.Building.{AreParts}
use Rattle.mk_buffers.proofs.Founding.{parts_more, parts_none}
use Rattle.mk_buffers.proofs.outlets.parts_of.Goals as goal

pub loop-sim-init : goal.loop-sim-init
loop-sim-init c = parts_none c.args.all.now c.in_ok-parts.parts.items c.in_ok-parts.ensures.items

pub loop-sim-preserved : goal.loop-sim-preserved
loop-sim-preserved c = parts_more c.args.all.now c.loop-sim.sim c.loop-sim.parts.items c.push.new.self.items c.part_of.result c.loop-sim.invariant c.part_of.ensures c.in_ok-push.ensures.items

pub returns : goal.returns
returns c = let end : c.loop-sim.sim ≡ c.args.sims = omega (arith, c.loop-sim-test.false) in subst (λ n. AreParts n c.args.all.now c.loop-sim.parts.items) end c.loop-sim.invariant
