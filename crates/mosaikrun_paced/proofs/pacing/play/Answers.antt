-- Answers to the goals of `pacing::play` that the prover leaves.
use Rattle.std.proofs.Common.{[], inl, refl}
use Rattle.mk_local.specs.Registries.{rows_in}
use Rattle.mk_outside.proofs.OnLogs.{adds_none}
use Rattle.mosaikrun_run.specs.Outcomes.{outside}
use Rattle.mosaikrun_paced.proofs.Telling.{rising_none, unready}
use Rattle.mosaikrun_paced.proofs.pacing.play.Goals as goal

pub returns-in-Err-clause-none : goal.returns-in-Err-clause-none
returns-in-Err-clause-none g c =
    let O = outside g.F.Fleet.started g.F.Fleet.faults (rows_in c.args.kinds.now) c.args.fleet.now c.args.fleet.now [] in
    rw (c.unrecorded.ensures.text, c.unrecorded.ensures.no_record) ([], adds_none _, unready O c.args.factor c.args.strict c.args.is_recorded c.args.scenario c.in-Err.ending _ _ refl refl refl refl c.in-Err.ensures.unready)

pub returns-in-Err-clause-rising : goal.returns-in-Err-clause-rising
returns-in-Err-clause-rising g c = ([], adds_none _, λ told. rising_none)

pub returns-in-Err-clause-shown : goal.returns-in-Err-clause-shown
returns-in-Err-clause-shown g c = rw c.unrecorded.ensures.no_record (inl (refl, refl))
