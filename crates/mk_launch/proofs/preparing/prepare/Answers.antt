-- Answers to the goals of `preparing::prepare` that the prover leaves.
use Rattle.mk_launch.proofs.Faulty.{first_fault}
use Rattle.mk_launch.proofs.preparing.prepare.Goals as goal

pub returns-in-Err-clause-unready : goal.returns-in-Err-clause-unready
returns-in-Err-clause-unready c =
    first_fault c.args.scenario.now c.args.kinds.now c.as_slice-sim-items.result.now c.loop-i.i c.sim-item.result c.in-Err.fault c.as_slice-sim-items.ensures c.loop-i-test.true c.sim-item.is c.loop-i.invariant c.in-Err.ensures.err
