-- Answers to the goals of `driving::drive` that the prover leaves.
use Rattle.std.proofs.Common.{[]}
use Rattle.mk_outside.proofs.OnLogs.{adds_none}
use Rattle.mk_run.proofs.Turning.{asked_end}
use Rattle.mk_run.proofs.driving.drive.Goals as goal

pub drive_on-requires-clause-underway : goal.drive_on-requires-clause-underway
drive_on-requires-clause-underway g c = let t = c.requires.underway in (t.0, t.1, c.in-Ok.ensures.asked_all.2 t.0 t.1 t.2, t.3)

pub returns-in-Ok-clause-ended : goal.returns-in-Ok-clause-ended
returns-in-Ok-clause-ended g c =
    let e = c.drive_on.ensures.ended in
    (e.0, e.1, λ T log u. e.2 T log (c.in-Ok.ensures.asked_all.2 T log u))

pub returns-in-Err-clause-ended : goal.returns-in-Err-clause-ended
returns-in-Err-clause-ended g c = ([], adds_none _, asked_end _ c.args.core.now c.begin.new.core c.args.crew.now c.begin.new.crew c.in-Err.outcome c.in-Err.ensures.asked_all)
