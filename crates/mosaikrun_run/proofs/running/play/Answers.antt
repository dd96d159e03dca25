-- Answers to the goals of `running::play` that the prover leaves.
use Rattle.std.proofs.Common.{◌≡◌, None, Ok, Err, refl}
use Rattle.std.specs.Prelude.{option_map}
use Rattle.mk_local.specs.Registries.{rows_in}
use Rattle.mosaikrun_endings.specs.declared.ending.Ending.TheVariants as ends
use Rattle.mosaikrun_run.specs.Sayings.{record_of}
use Rattle.mosaikrun_run.specs.Outcomes.{IsReadAgain, outside}
use Rattle.mosaikrun_run.proofs.Telling.{has_run, if_err, if_mapped, if_ok, made_with_ending, made_with_text, played, unplayed, writable}
use Rattle.mosaikrun_run.proofs.Showing.{shown_run, unshown_run}
use Rattle.mosaikrun_run.proofs.running.play.Goals as goal

pub tell-requires : goal.tell-requires
tell-requires g c =
    let r = c.run-outcome.ensures.ran in
    let O = outside g.F.Fleet.started g.F.Fleet.faults (rows_in c.args.kinds.now) c.args.fleet.now c.run-outcome.new.fleet r.0 in
    writable c.in-Some-Some.journal.entries (has_run O c.args.scenario c.args.accepted.ranks c.run-outcome.result.outcome c.run-outcome.result.plan c.run-outcome.result.journal c.in-Some-Some.plan c.in-Some-Some.journal c.in-Some-Some.is-0 c.in-Some-Some.is-1 r.2).run.in_range

pub returns-in-Some-Some-clause-text : goal.returns-in-Some-Some-clause-text
returns-in-Some-Some-clause-text g c =
    let r = c.run-outcome.ensures.ran in
    let O = outside g.F.Fleet.started g.F.Fleet.faults (rows_in c.args.kinds.now) c.args.fleet.now c.run-outcome.new.fleet r.0 in
    if_ok c.tell.result.text
    (λ text is said. (
      r.0,
      r.1,
      played O c.args.scenario c.args.accepted.ranks c.run-outcome.result.outcome c.args.form c.args.is_recorded c.requires.runnable c.run-outcome.result.plan c.run-outcome.result.journal c.in-Some-Some.plan c.in-Some-Some.journal c.in-Some-Some.is-0 c.in-Some-Some.is-1 r.2
          c.args.accepted.ids c.requires.ids (Ok text.items) (option_map (λ v. v.items) c.tell.result.record_text) said
          (made_with_text (λ v. v.items) (record_of c.args.is_recorded c.in-Some-Some.plan c.in-Some-Some.journal.entries) c.tell.result.record_text c.tell.result.text text is c.tell.ensures.recorded (Ok text.items))
          (if_mapped (λ v. v.items) (IsReadAgain c.in-Some-Some.plan c.in-Some-Some.journal.entries) c.tell.result.record_text c.tell.ensures.again),
    ))
    c.tell.ensures.text

pub returns-in-Some-Some-clause-none : goal.returns-in-Some-Some-clause-none
returns-in-Some-Some-clause-none g c =
    let r = c.run-outcome.ensures.ran in
    let O = outside g.F.Fleet.started g.F.Fleet.faults (rows_in c.args.kinds.now) c.args.fleet.now c.run-outcome.new.fleet r.0 in
    if_err c.tell.result.text
    (λ e is said. (
      r.0,
      r.1,
      played O c.args.scenario c.args.accepted.ranks c.run-outcome.result.outcome c.args.form c.args.is_recorded c.requires.runnable c.run-outcome.result.plan c.run-outcome.result.journal c.in-Some-Some.plan c.in-Some-Some.journal c.in-Some-Some.is-0 c.in-Some-Some.is-1 r.2
          c.args.accepted.ids c.requires.ids (Err e) (option_map (λ v. v.items) c.tell.result.record_text) said
          (made_with_ending (λ v. v.items) (record_of c.args.is_recorded c.in-Some-Some.plan c.in-Some-Some.journal.entries) c.tell.result.record_text c.tell.result.text e is c.tell.ensures.recorded (Err e) refl)
          (if_mapped (λ v. v.items) (IsReadAgain c.in-Some-Some.plan c.in-Some-Some.journal.entries) c.tell.result.record_text c.tell.ensures.again),
    ))
    c.tell.ensures.none

pub returns-in-None-None-clause-none : goal.returns-in-None-None-clause-none
returns-in-None-None-clause-none g c =
    let r = c.run-outcome.ensures.ran in
    let O = outside g.F.Fleet.started g.F.Fleet.faults (rows_in c.args.kinds.now) c.args.fleet.now c.run-outcome.new.fleet r.0 in
    rw (c.unrecorded.ensures.text, c.unrecorded.ensures.no_record)
    (r.0, r.1, unplayed O c.args.scenario c.args.accepted.ranks c.run-outcome.result.outcome c.args.form c.args.is_recorded c.requires.runnable c.run-outcome.result.plan c.run-outcome.result.journal c.in-None-None.is-0 c.in-None-None.is-1 r.2 c.args.accepted.ids c.requires.ids (Err c.unrun.result) None c.unrun.ensures refl)

-- where all simulators are within the program the fleet is as before
pub returns-in-Some-Some-clause-within : goal.returns-in-Some-Some-clause-within
returns-in-Some-Some-clause-within g c = λ all. (c.run-outcome.ensures.within all).0

pub returns-in-None-None-clause-within : goal.returns-in-None-None-clause-within
returns-in-None-None-clause-within g c = λ all. (c.run-outcome.ensures.within all).0

-- what was shown is what the record says

pub returns-in-Some-Some-clause-shown : goal.returns-in-Some-Some-clause-shown
returns-in-Some-Some-clause-shown g c =
    shown_run g.O.Onlooker.looks _ c.run-outcome.result.plan c.run-outcome.result.journal c.args.onlooker.now c.run-outcome.new.onlooker c.run-outcome.ensures.shown c.in-Some-Some.plan c.in-Some-Some.journal c.in-Some-Some.is-0 c.in-Some-Some.is-1
    (λ v. v.items) c.args.is_recorded c.tell.result.record_text (c.tell.result.text ≡ Err ends.Mem) c.tell.ensures.recorded

pub returns-in-None-None-clause-shown : goal.returns-in-None-None-clause-shown
returns-in-None-None-clause-shown g c =
    rw c.unrecorded.ensures.no_record (unshown_run g.O.Onlooker.looks _ c.run-outcome.result.plan c.run-outcome.result.journal c.args.onlooker.now c.run-outcome.new.onlooker c.run-outcome.ensures.shown c.in-None-None.is-0 c.in-None-None.is-1)
