-- Answers to the goals of `pacing::paced_ran` that the prover leaves.
use Rattle.std.proofs.Common.{[], inl, Ok, Err, refl, option_map}
use Rattle.mk_local.specs.Registries.{rows_in}
use Rattle.mk_outside.proofs.OnLogs.{adds_none}
use Rattle.mosaikrun_run.specs.Outcomes.{outside}
use Rattle.mosaikrun_run.proofs.Telling.{if_err, if_ok}
use Rattle.mosaikrun_paced.proofs.Telling.{no_scenario, of_bytes, rising_none}
use Rattle.mosaikrun_paced.proofs.pacing.paced_ran.Goals as goal

pub returns-in-Ok-clause-text : goal.returns-in-Ok-clause-text
returns-in-Ok-clause-text g c =
    let kept = option_map (λ v. v.items) c.play.result.record_text in
    if_ok c.play.result.text
    (λ text is h. (h.0, h.1, of_bytes (outside g.F.Fleet.started g.F.Fleet.faults (rows_in c.args.kinds.now) c.args.fleet.now c.play.new.fleet h.0) c.args.factor c.args.strict c.args.is_recorded c.args.bytes.now c.in-Ok.scenario (Ok text.items) kept c.in-Ok.ensures.read c.in-Ok.ensures.wellformed h.2))
    c.play.ensures.text

pub returns-in-Ok-clause-none : goal.returns-in-Ok-clause-none
returns-in-Ok-clause-none g c =
    let kept = option_map (λ v. v.items) c.play.result.record_text in
    if_err c.play.result.text
    (λ e is h. (h.0, h.1, of_bytes (outside g.F.Fleet.started g.F.Fleet.faults (rows_in c.args.kinds.now) c.args.fleet.now c.play.new.fleet h.0) c.args.factor c.args.strict c.args.is_recorded c.args.bytes.now c.in-Ok.scenario (Err e) kept c.in-Ok.ensures.read c.in-Ok.ensures.wellformed h.2))
    c.play.ensures.none

pub returns-in-Err-clause-none : goal.returns-in-Err-clause-none
returns-in-Err-clause-none g c =
    let O = outside g.F.Fleet.started g.F.Fleet.faults (rows_in c.args.kinds.now) c.args.fleet.now c.args.fleet.now [] in
    rw (c.unrecorded.ensures.text, c.unrecorded.ensures.no_record) ([], adds_none _, no_scenario O c.args.factor c.args.strict c.args.is_recorded c.args.bytes.now c.in-Err.ending _ _ refl refl refl refl c.in-Err.ensures.unread)

pub returns-in-Err-clause-rising : goal.returns-in-Err-clause-rising
returns-in-Err-clause-rising g c = ([], adds_none _, λ told. rising_none)

pub returns-in-Err-clause-shown : goal.returns-in-Err-clause-shown
returns-in-Err-clause-shown g c = rw c.unrecorded.ensures.no_record (inl (refl, refl))
