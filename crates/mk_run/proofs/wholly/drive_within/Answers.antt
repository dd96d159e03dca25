-- Answers to the goals of `wholly::drive_within` that the prover leaves.
use Rattle.std.proofs.Common.{[]}
use Rattle.mk_run.proofs.Turning.{asked_end}
use Rattle.mk_run.proofs.wholly.drive_within.Goals as goal

pub drive_on_within-requires-clause-underway : goal.drive_on_within-requires-clause-underway
drive_on_within-requires-clause-underway g c = let t = c.requires.underway in (t.0, c.in-Ok.ensures.asked_all.2 t.0 [] t.1, t.2)

pub returns-in-Ok-clause-ended : goal.returns-in-Ok-clause-ended
returns-in-Ok-clause-ended g c T log u = c.drive_on_within.ensures.ended T log (c.in-Ok.ensures.asked_all.2 T log u)

pub returns-in-Err-clause-ended : goal.returns-in-Err-clause-ended
returns-in-Err-clause-ended g c = asked_end ⊥ c.args.core.now c.begin.new.core c.args.crew.now c.begin.new.crew c.in-Err.outcome c.in-Err.ensures.asked_all
