-- Answers to the goals of `desk::mark` that the prover leaves.
use Rattle.std.proofs.Common.{arith}
use Rattle.mk_real.proofs.Marks.{set_is_in}
use Rattle.mk_real.proofs.desk.mark.Goals as goal

pub returns : goal.returns
returns g c = set_is_in c.loop-place.ready c.args.first (omega arith)
