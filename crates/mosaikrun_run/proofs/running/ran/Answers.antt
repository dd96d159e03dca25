-- Answers to the goals of `running::ran` that the prover leaves.
use Rattle.std.proofs.Common.{[], inl, Ok, Err, refl, option_map, not, sym, ◌∙◌, subst}
use Rattle.mk_local.specs.Registries.{rows_in}
use Rattle.mk_outside.proofs.OnLogs.{adds_none}
use Rattle.mosaikrun_run.specs.Outcomes.{outside}
use Rattle.mosaikrun_run.proofs.Telling.{if_err, if_ok, no_scenario, of_bytes, within_also}
use Rattle.mk_scenario.specs.declared.parts.Scenario.{Scenario}
use Rattle.mk_run_crew.specs.Wholly.{is_wholly_within}
use Rattle.mosaikrun_run.specs.Shown.{HasShown}
use Rattle.mosaikrun_run.proofs.Telling.{one_scenario}
use Rattle.mosaikrun_run.proofs.running.ran.Goals as goal

pub returns-in-Ok-clause-text : goal.returns-in-Ok-clause-text
returns-in-Ok-clause-text g c =
    let kept = option_map (λ v. v.items) c.played.result.record_text in
    if_ok c.played.result.text
    (λ text is h. (h.0, h.1, of_bytes (outside g.F.Fleet.started g.F.Fleet.faults (rows_in c.args.kinds.now) c.args.fleet.now c.played.new.fleet h.0) c.args.is_recorded c.args.bytes.now c.in-Ok.scenario (Ok text.items) kept c.in-Ok.ensures.read c.in-Ok.ensures.wellformed h.2))
    c.played.ensures.text

pub returns-in-Ok-clause-none : goal.returns-in-Ok-clause-none
returns-in-Ok-clause-none g c =
    let kept = option_map (λ v. v.items) c.played.result.record_text in
    if_err c.played.result.text
    (λ e is h. (h.0, h.1, of_bytes (outside g.F.Fleet.started g.F.Fleet.faults (rows_in c.args.kinds.now) c.args.fleet.now c.played.new.fleet h.0) c.args.is_recorded c.args.bytes.now c.in-Ok.scenario (Err e) kept c.in-Ok.ensures.read c.in-Ok.ensures.wellformed h.2))
    c.played.ensures.none

pub returns-in-Err-clause-none : goal.returns-in-Err-clause-none
returns-in-Err-clause-none g c =
    let O = outside g.F.Fleet.started g.F.Fleet.faults (rows_in c.args.kinds.now) c.args.fleet.now c.args.fleet.now [] in
    rw (c.unrecorded.ensures.text, c.unrecorded.ensures.no_record) ([], adds_none _, no_scenario O c.args.is_recorded c.args.bytes.now c.in-Err.ending _ _ refl refl refl refl c.in-Err.ensures.unread)

-- where all simulators are within the program the fleet is as before
pub returns-in-Ok-clause-within : goal.returns-in-Ok-clause-within
returns-in-Ok-clause-within g c = λ S read all. c.played.ensures.within (within_also S c.in-Ok.scenario c.args.bytes.now read c.in-Ok.ensures.read all)

pub returns-in-Ok-clause-shown : goal.returns-in-Ok-clause-shown
returns-in-Ok-clause-shown g c S read =
    subst (λ (T : Scenario). HasShown g.O.Onlooker.looks (not (is_wholly_within T)) (option_map (λ v. v.items) c.played.result.record_text) c.args.onlooker.now c.played.new.onlooker) (one_scenario c.args.bytes.now c.in-Ok.scenario S c.in-Ok.ensures.read read) c.played.ensures.shown

pub returns-in-Ok-clause-unread : goal.returns-in-Ok-clause-unread
returns-in-Ok-clause-unread g c f read = let e = sym c.in-Ok.ensures.read ∙ read in cc

pub returns-in-Err-clause-shown : goal.returns-in-Err-clause-shown
returns-in-Err-clause-shown g c S read = rw c.unrecorded.ensures.no_record (inl (refl, refl))
