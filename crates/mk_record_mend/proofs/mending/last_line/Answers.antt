-- Answers to the goals of `mending::last_line` that the prover leaves.
use Rattle.mk_record_mend.proofs.Ends.{last_of_none, last_of_some}
use Rattle.mk_record_mend.proofs.mending.last_line.Goals as goal

pub returns-in-Some : goal.returns-in-Some
returns-in-Some c = last_of_some c.args.lines.now c.in-Some.end c.in-Some.ensures

pub returns-in-None : goal.returns-in-None
returns-in-None c = last_of_none c.args.lines.now c.in-None.ensures
