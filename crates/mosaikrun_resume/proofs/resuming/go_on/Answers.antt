-- Answers to the goals of `resuming::go_on` that the prover leaves.
use Rattle.std.proofs.Common.{◌≡◌, None, Ok, Err, refl, ap}
use Rattle.std.specs.Prelude.{option_map}
use Rattle.mk_local.specs.Registries.{rows_in}
use Rattle.mosaikrun_run.specs.Sayings.{record_of}
use Rattle.mosaikrun_run.specs.Outcomes.{IsReadAgain, outside}
use Rattle.mosaikrun_run.proofs.Telling.{if_err, if_mapped, if_ok, made_with_ending, made_with_text}
use Rattle.mosaikrun_resume.proofs.Telling.{is_refusal, may_be_written, refused, some}
use Rattle.mosaikrun_endings.specs.declared.ending.Ending.TheVariants as ends
use Rattle.mosaikrun_resume.proofs.Showing.{shown_onward, unshown_onward}
use Rattle.mosaikrun_resume.proofs.resuming.go_on.Goals as goal

pub tell-requires : goal.tell-requires
tell-requires g c =
    let r = c.resume-end.ensures.ran in
    let O = outside g.F.Fleet.started g.F.Fleet.faults (rows_in c.args.kinds.now) c.args.fleet.now c.resume-end.new.fleet r.0 in
    let h = c.resume-end.result in
    may_be_written O c.args.study.scenario c.args.study.ranks c.args.saved h.end h.taken h.plan h.journal r.2 c.in-Some-Some.plan c.in-Some-Some.journal c.in-Some-Some.is-0 c.in-Some-Some.is-1

pub refusal-requires : goal.refusal-requires
refusal-requires g c =
    let r = c.resume-end.ensures.ran in
    let O = outside g.F.Fleet.started g.F.Fleet.faults (rows_in c.args.kinds.now) c.args.fleet.now c.resume-end.new.fleet r.0 in
    let h = c.resume-end.result in
    is_refusal O c.args.study.scenario c.args.study.ranks c.args.saved h.end h.taken h.plan h.journal r.2 c.in-None-None.is-0 c.in-None-None.is-1

pub returns-in-Some-Some-clause-text : goal.returns-in-Some-Some-clause-text
returns-in-Some-Some-clause-text g c =
    let r = c.resume-end.ensures.ran in
    let O = outside g.F.Fleet.started g.F.Fleet.faults (rows_in c.args.kinds.now) c.args.fleet.now c.resume-end.new.fleet r.0 in
    let h = c.resume-end.result in
    let P = c.in-Some-Some.plan in
    let J = c.in-Some-Some.journal in
    if_ok c.tell.result.text
    (λ text is said. (
      r.0,
      r.1,
      some O c.args.study.scenario c.args.study.ranks c.args.saved h.end h.taken h.plan h.journal r.2 c.args.is_recorded c.requires.runnable c.args.study.ids c.requires.ids (Ok text.items) (option_map (λ v. v.items) c.tell.result.record_text) P J c.in-Some-Some.is-0 c.in-Some-Some.is-1 said
          (λ taken. made_with_text (λ v. v.items) (record_of c.args.is_recorded P J.entries) c.tell.result.record_text c.tell.result.text text is (c.tell.ensures.recorded taken) (Ok text.items))
          (if_mapped (λ v. v.items) (IsReadAgain P J.entries) c.tell.result.record_text c.tell.ensures.again) (λ not. ap (option_map (λ v. v.items)) (c.tell.ensures.unrecorded not)),
    ))
    c.tell.ensures.text

pub returns-in-Some-Some-clause-none : goal.returns-in-Some-Some-clause-none
returns-in-Some-Some-clause-none g c =
    let r = c.resume-end.ensures.ran in
    let O = outside g.F.Fleet.started g.F.Fleet.faults (rows_in c.args.kinds.now) c.args.fleet.now c.resume-end.new.fleet r.0 in
    let h = c.resume-end.result in
    let P = c.in-Some-Some.plan in
    let J = c.in-Some-Some.journal in
    if_err c.tell.result.text
    (λ e is said. (
      r.0,
      r.1,
      some O c.args.study.scenario c.args.study.ranks c.args.saved h.end h.taken h.plan h.journal r.2 c.args.is_recorded c.requires.runnable c.args.study.ids c.requires.ids (Err e) (option_map (λ v. v.items) c.tell.result.record_text) P J c.in-Some-Some.is-0 c.in-Some-Some.is-1 said
          (λ taken. made_with_ending (λ v. v.items) (record_of c.args.is_recorded P J.entries) c.tell.result.record_text c.tell.result.text e is (c.tell.ensures.recorded taken) (Err e) refl)
          (if_mapped (λ v. v.items) (IsReadAgain P J.entries) c.tell.result.record_text c.tell.ensures.again) (λ not. ap (option_map (λ v. v.items)) (c.tell.ensures.unrecorded not)),
    ))
    c.tell.ensures.none

pub returns-in-None-None-clause-none : goal.returns-in-None-None-clause-none
returns-in-None-None-clause-none g c =
    let r = c.resume-end.ensures.ran in
    let O = outside g.F.Fleet.started g.F.Fleet.faults (rows_in c.args.kinds.now) c.args.fleet.now c.resume-end.new.fleet r.0 in
    let h = c.resume-end.result in
    rw (c.unrecorded.ensures.text, c.unrecorded.ensures.no_record)
    (r.0, r.1, refused O c.args.study.scenario c.args.study.ranks c.args.saved h.end h.taken h.plan h.journal r.2 c.args.is_recorded c.requires.runnable c.args.study.ids c.requires.ids (Err c.refusal.result) None c.in-None-None.is-0 c.in-None-None.is-1 c.refusal.ensures.halted c.refusal.ensures.refused refl)

-- what was shown is what the new record says

pub returns-in-Some-Some-clause-shown : goal.returns-in-Some-Some-clause-shown
returns-in-Some-Some-clause-shown g c =
    let h = c.resume-end.result in
    shown_onward g.O.Onlooker.looks c.args.saved h.plan h.journal c.args.onlooker.now c.resume-end.new.onlooker h.taken c.resume-end.ensures.shown c.in-Some-Some.plan c.in-Some-Some.journal c.in-Some-Some.is-0 c.in-Some-Some.is-1 (λ v. v.items) c.args.is_recorded
    c.tell.result.record_text (c.tell.result.text ≡ Err ends.Mem) c.tell.ensures.recorded c.tell.ensures.unrecorded

pub returns-in-None-None-clause-shown : goal.returns-in-None-None-clause-shown
returns-in-None-None-clause-shown g c =
    let h = c.resume-end.result in
    rw c.unrecorded.ensures.no_record (unshown_onward g.O.Onlooker.looks c.args.saved h.plan h.journal c.args.onlooker.now c.resume-end.new.onlooker h.taken c.resume-end.ensures.shown c.in-None-None.is-0)
