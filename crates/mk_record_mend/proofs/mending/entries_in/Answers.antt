-- Answers to the goals of `mending::entries_in` that the prover leaves.
use Rattle.mk_record_mend.proofs.Ends.{counts_last, counts_next}
use Rattle.mk_record_mend.proofs.mending.entries_in.Goals as goal

pub loop-end-preserved : goal.loop-end-preserved
loop-end-preserved c = counts_next c.args.lines.now c.loop-end.rest.now c.loop-end.count c.in-Some.end c.entries_of-count.result c.loop-end.invariant c.in-Some.ensures c.entries_of-count.ensures

pub returns : goal.returns
returns c = counts_last c.args.lines.now c.loop-end.rest.now c.loop-end.count c.entries_of.result c.loop-end.invariant c.in_default.ensures c.entries_of.ensures
