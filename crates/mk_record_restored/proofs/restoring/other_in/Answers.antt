-- Answers to the goals of `restoring::other_in` that the prover leaves.
use Rattle.std.proofs.Common.{refl}
use Rattle.mk_record_restored.proofs.AfterRecord.{compared_with}
use Rattle.mk_record_restored.proofs.restoring.other_in.Goals as goal

pub returns : goal.returns
returns c = λ P A count restored. compared_with P A c.args.asks.now c.args.core.now c.journal.result.now.entries c.first_other_step.result _ c.journal.ensures.same restored (λ begins. c.first_other_step.ensures A count begins) refl
