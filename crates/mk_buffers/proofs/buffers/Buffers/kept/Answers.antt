-- Answers to the goals of `buffers::Buffers::kept` that the prover leaves.
use Rattle.std.proofs.Common.{arith}
use Rattle.mk_buffers.proofs.Bounding.{held_most}
use Rattle.mk_buffers.proofs.buffers.Buffers.kept.Goals as goal

pub returns-clause-few : goal.returns-clause-few
returns-clause-few c = λ P S st. omega (arith, c.held.ensures, held_most P c.args.self.now S st)
