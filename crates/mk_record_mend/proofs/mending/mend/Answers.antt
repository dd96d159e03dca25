-- Answers to the goals of `mending::mend` that the prover leaves.
use Rattle.std.proofs.Common.{None, subst}
use Rattle.mk_record_mend.specs.inner.Feeds.{IsLastFeed}
use Rattle.mk_record_mend.proofs.Ends.{left_none}
use Rattle.mk_record_mend.proofs.mending.mend.Goals as goal

pub returns-in-None : goal.returns-in-None
returns-in-None c = left_none c.args.bytes.now.items (subst (λ b. IsLastFeed b None) c.as_slice.ensures.value c.in-None.ensures)
