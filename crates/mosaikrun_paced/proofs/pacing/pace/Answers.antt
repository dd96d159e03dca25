-- Answers to the goals of `pacing::pace` that the prover leaves.
use Rattle.std.proofs.Common.{◌≡◌, None, Ok, Err, refl, true}
use Rattle.std.specs.Prelude.{option_map}
use Rattle.mk_local.specs.Registries.{rows_in}
use Rattle.mosaikrun_run.specs.Sayings.{record_of}
use Rattle.mosaikrun_run.specs.Outcomes.{IsReadAgain, outside}
use Rattle.mosaikrun_run.proofs.Telling.{if_err, if_mapped, if_ok, made_with_ending, made_with_text, said_ending, said_text}
use Rattle.mosaikrun_paced.specs.Sayings.{pace_saying}
use Rattle.mosaikrun_paced.proofs.Telling.{is_halt, may_be_written, paced, unpaced}
use Rattle.mosaikrun_endings.specs.declared.ending.Ending.TheVariants as ends
use Rattle.mosaikrun_run.proofs.Showing.{shown_run, unshown_run}
use Rattle.mosaikrun_paced.proofs.pacing.pace.Goals as goal

pub recorded-requires : goal.recorded-requires
recorded-requires g c =
    let r = c.paced-end.ensures.ran in
    let O = outside g.F.Fleet.started g.F.Fleet.faults (rows_in c.args.kinds.now) c.args.fleet.now c.paced-end.new.fleet r.0 in
    let h = c.paced-end.result in
    may_be_written O c.args.scenario c.args.accepted.ranks c.args.factor c.args.strict h.moments h.end h.plan h.journal c.in-Some-Some.plan c.in-Some-Some.journal c.in-Some-Some.is-0 c.in-Some-Some.is-1 r.3

pub unpaced-requires : goal.unpaced-requires
unpaced-requires g c =
    let r = c.paced-end.ensures.ran in
    let O = outside g.F.Fleet.started g.F.Fleet.faults (rows_in c.args.kinds.now) c.args.fleet.now c.paced-end.new.fleet r.0 in
    let h = c.paced-end.result in
    is_halt O c.args.scenario c.args.accepted.ranks c.args.factor c.args.strict h.moments h.end h.plan h.journal c.in-None-None.is-0 c.in-None-None.is-1 r.3

pub returns-in-Some-Some-clause-text : goal.returns-in-Some-Some-clause-text
returns-in-Some-Some-clause-text g c =
    let r = c.paced-end.ensures.ran in
    let O = outside g.F.Fleet.started g.F.Fleet.faults (rows_in c.args.kinds.now) c.args.fleet.now c.paced-end.new.fleet r.0 in
    let h = c.paced-end.result in
    let P = c.in-Some-Some.plan in
    let J = c.in-Some-Some.journal in
    if_ok c.recorded.result.text
    (λ text is said. (
      r.0,
      r.1,
      paced O c.args.scenario c.args.accepted.ranks c.args.factor c.args.strict h.moments h.end c.args.is_recorded c.requires.runnable c.args.accepted.ids c.requires.ids (Ok text.items) (option_map (λ v. v.items) c.recorded.result.record_text) h.plan h.journal P J c.in-Some-Some.is-0 c.in-Some-Some.is-1 r.3 said
          (made_with_text (λ v. v.items) (record_of c.args.is_recorded P J.entries) c.recorded.result.record_text c.recorded.result.text text is c.recorded.ensures.recorded (Ok text.items))
          (if_mapped (λ v. v.items) (IsReadAgain P J.entries) c.recorded.result.record_text c.recorded.ensures.again),
    ))
    (said_text (λ v. v.items) (pace_saying c.args.accepted.ids P J.entries h.end) c.saying_at-text.result c.recorded.result.text c.recorded.ensures.text c.saying_at-text.ensures.text)

pub returns-in-Some-Some-clause-none : goal.returns-in-Some-Some-clause-none
returns-in-Some-Some-clause-none g c =
    let r = c.paced-end.ensures.ran in
    let O = outside g.F.Fleet.started g.F.Fleet.faults (rows_in c.args.kinds.now) c.args.fleet.now c.paced-end.new.fleet r.0 in
    let h = c.paced-end.result in
    let P = c.in-Some-Some.plan in
    let J = c.in-Some-Some.journal in
    if_err c.recorded.result.text
    (λ e is said. (
      r.0,
      r.1,
      paced O c.args.scenario c.args.accepted.ranks c.args.factor c.args.strict h.moments h.end c.args.is_recorded c.requires.runnable c.args.accepted.ids c.requires.ids (Err e) (option_map (λ v. v.items) c.recorded.result.record_text) h.plan h.journal P J c.in-Some-Some.is-0 c.in-Some-Some.is-1 r.3 said
          (made_with_ending (λ v. v.items) (record_of c.args.is_recorded P J.entries) c.recorded.result.record_text c.recorded.result.text e is c.recorded.ensures.recorded (Err e) refl)
          (if_mapped (λ v. v.items) (IsReadAgain P J.entries) c.recorded.result.record_text c.recorded.ensures.again),
    ))
    (said_ending (pace_saying c.args.accepted.ids P J.entries h.end) c.saying_at-text.result c.recorded.result.text c.recorded.ensures.text c.saying_at-text.ensures.none)

pub returns-in-None-None-clause-none : goal.returns-in-None-None-clause-none
returns-in-None-None-clause-none g c =
    let r = c.paced-end.ensures.ran in
    let O = outside g.F.Fleet.started g.F.Fleet.faults (rows_in c.args.kinds.now) c.args.fleet.now c.paced-end.new.fleet r.0 in
    let h = c.paced-end.result in
    rw (c.unrecorded.ensures.text, c.unrecorded.ensures.no_record)
    (r.0, r.1, unpaced O c.args.scenario c.args.accepted.ranks c.args.factor c.args.strict h.moments h.end c.args.is_recorded c.requires.runnable c.args.accepted.ids c.requires.ids (Err c.unpaced.result) None h.plan h.journal c.in-None-None.is-0 c.in-None-None.is-1 r.3 c.unpaced.ensures refl)

pub returns-in-Some-Some-clause-rising : goal.returns-in-Some-Some-clause-rising
returns-in-Some-Some-clause-rising g c = let r = c.paced-end.ensures.ran in (r.0, r.1, r.2)

pub returns-in-None-None-clause-rising : goal.returns-in-None-None-clause-rising
returns-in-None-None-clause-rising g c = let r = c.paced-end.ensures.ran in (r.0, r.1, r.2)

-- what was shown is what the record says

pub returns-in-Some-Some-clause-shown : goal.returns-in-Some-Some-clause-shown
returns-in-Some-Some-clause-shown g c =
    let h = c.paced-end.result in
    shown_run g.O.Onlooker.looks true h.plan h.journal c.args.onlooker.now c.paced-end.new.onlooker c.paced-end.ensures.shown c.in-Some-Some.plan c.in-Some-Some.journal c.in-Some-Some.is-0 c.in-Some-Some.is-1 (λ v. v.items) c.args.is_recorded c.recorded.result.record_text
    (c.recorded.result.text ≡ Err ends.Mem) c.recorded.ensures.recorded

pub returns-in-None-None-clause-shown : goal.returns-in-None-None-clause-shown
returns-in-None-None-clause-shown g c =
    let h = c.paced-end.result in
    rw c.unrecorded.ensures.no_record (unshown_run g.O.Onlooker.looks true h.plan h.journal c.args.onlooker.now c.paced-end.new.onlooker c.paced-end.ensures.shown c.in-None-None.is-0 c.in-None-None.is-1)
