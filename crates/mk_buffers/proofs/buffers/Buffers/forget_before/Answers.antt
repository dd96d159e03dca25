-- Answers to the goals of `buffers::Buffers::forget_before` that the prover leaves.
use Rattle.std.proofs.Common.{arith}
use Rattle.mk_buffers.proofs.Standing.{has_raised}
use Rattle.mk_buffers.proofs.buffers.Buffers.forget_before.Goals as goal

pub returns-then-sim-sims-clause-marks : goal.returns-then-sim-sims-clause-marks
returns-then-sim-sims-clause-marks c = λ P S st low. let r = c.raise.ensures.marks in has_raised c.args.self.now c.raise.new.self c.args.sim.0 c.args.at r.0 (omega (arith, low, st.of_plan.sizes.marks)) r.1
