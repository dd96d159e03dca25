-- Answers to the goals of `restoring::compared` that the prover leaves.
use Rattle.mk_record_restored.proofs.restoring.compared.Goals as goal

pub returns : goal.returns
returns c = λ P A plan count restored. c.told.ensures P A c.args.asks.now plan restored (c.other_in-other.ensures P A count restored)
