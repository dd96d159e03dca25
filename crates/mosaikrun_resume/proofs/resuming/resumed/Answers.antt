-- Answers to the goals of `resuming::resumed` that the prover leaves.
use Rattle.std.proofs.Common.{[], inl, Ok, Err, refl, option_map}
use Rattle.mk_local.specs.Registries.{rows_in}
use Rattle.mk_outside.proofs.OnLogs.{adds_none}
use Rattle.mosaikrun_run.specs.Outcomes.{outside}
use Rattle.mosaikrun_run.proofs.Telling.{if_err, if_ok}
use Rattle.mosaikrun_resume.proofs.Telling.{no_record, of_record}
use Rattle.mosaikrun_resume.proofs.resuming.resumed.Goals as goal

pub returns-in-Ok-clause-text : goal.returns-in-Ok-clause-text
returns-in-Ok-clause-text g c =
    let kept = option_map (λ v. v.items) c.go_on.result.record_text in
    if_ok c.go_on.result.text
    (λ text is h. (h.0, h.1, of_record (outside g.F.Fleet.started g.F.Fleet.faults (rows_in c.args.kinds.now) c.args.fleet.now c.go_on.new.fleet h.0) c.args.is_recorded c.args.study.scenario c.args.study.ranks c.args.bytes.now c.in-Ok.saved (Ok text.items) kept c.in-Ok.ensures.read h.2))
    c.go_on.ensures.text

pub returns-in-Ok-clause-none : goal.returns-in-Ok-clause-none
returns-in-Ok-clause-none g c =
    let kept = option_map (λ v. v.items) c.go_on.result.record_text in
    if_err c.go_on.result.text
    (λ e is h. (h.0, h.1, of_record (outside g.F.Fleet.started g.F.Fleet.faults (rows_in c.args.kinds.now) c.args.fleet.now c.go_on.new.fleet h.0) c.args.is_recorded c.args.study.scenario c.args.study.ranks c.args.bytes.now c.in-Ok.saved (Err e) kept c.in-Ok.ensures.read h.2))
    c.go_on.ensures.none

pub returns-in-Err-clause-none : goal.returns-in-Err-clause-none
returns-in-Err-clause-none g c =
    let O = outside g.F.Fleet.started g.F.Fleet.faults (rows_in c.args.kinds.now) c.args.fleet.now c.args.fleet.now [] in
    rw (c.unrecorded.ensures.text, c.unrecorded.ensures.no_record) ([], adds_none _, no_record O c.args.is_recorded c.args.study.scenario c.args.study.ranks c.args.bytes.now c.in-Err.ending _ _ refl refl refl refl c.in-Err.ensures.unread)

pub returns-in-Err-clause-shown : goal.returns-in-Err-clause-shown
returns-in-Err-clause-shown g c = rw c.unrecorded.ensures.no_record (inl (refl, refl))
