-- Answers to the goals of `top::carry_on` that the prover leaves.
use Rattle.std.proofs.Common.{◌≡◌, List, [], ℕ, inl, inr, refl, sym, ap, ◌∙◌, subst, map, Ok, Result, Err, option_map}
use Rattle.std.proofs.lemmas.Result.{err_from_is_err_and}
use Rattle.mk_outside.specs.declared.fleet.LogEntry.{LogEntry}
use Rattle.mk_outside.specs.Logs.{Adds}
use Rattle.mk_outside.proofs.OnLogs.{adds_none}
use Rattle.mk_local.specs.Kinds.{name_of}
use Rattle.mk_local.specs.Registries.{rows_in}
use Rattle.mk_record_mend.specs.Mended.{mended}
use Rattle.mk_scenario.specs.Scenarios.{scenario_of}
use Rattle.mosaikrun_words.specs.declared.request.Request.TheVariants.{Resume}
use Rattle.mosaikrun_check.specs.Checks.{IsUnchecked}
use Rattle.mosaikrun_endings.specs.declared.ending.Ending.{Ending}
use Rattle.mosaikrun_run.specs.Outcomes.{outside}
use Rattle.mosaikrun_run.proofs.Telling.{within_also}
use Rattle.mosaikrun_resume.specs.Outcomes.{IsStudy, IsStudyOutcome}
use Rattle.mosaikrun_program.specs.Around.{Around, folder_seen, output_seen}
use Rattle.mosaikrun_program.specs.Commands.{HasBytes}
use Rattle.mosaikrun_program.specs.Running.{RunAnswer}
use Rattle.mosaikrun_program.specs.Program.{EndedAs}
use Rattle.mosaikrun_program.proofs.CarryingOn.{first_refused, gone_on, low, second_stuck}
use Rattle.mosaikrun_program.proofs.Fleetless.{does_nothing}
use Rattle.mosaikrun_program.proofs.Making.{unreadable_later}
use Rattle.mosaikrun_program.proofs.Playing.{answered_since, either}
use Rattle.std.specs.Prelude.{IfSome}
use Rattle.mk_scribe.specs.Desks.{desk_of}
use Rattle.mosaikrun_program.specs.inner.Drafting.{HasRecord}
use Rattle.mosaikrun_program.proofs.Recorded.{onward_has}
use Rattle.mosaikrun_program.proofs.top.carry_on.Goals as goal
use Rattle.mk_session.proofs.Polling.{risen_after}

-- the scenario's file isn't read
pub returns-in_err-bytes-clause-carried : goal.returns-in_err-bytes-clause-carried
returns-in_err-bytes-clause-carried g c = λ words rules asked.
    let S : Around = record {
      words = words;
      outside = outside g.F.Fleet.started g.F.Fleet.faults (rows_in c.args.kinds.now) c.args.fleet.now c.args.fleet.now [];
      rules = rules;
      folder = folder_seen g.D.Folder.files g.D.Folder.faults c.args.folder.now c.file_bytes.new.folder;
      output = output_seen g.K.Sink.written g.K.Sink.faults g.K.Sink.shortages c.args.out.now c.args.out.now;
    } in
    let e = err_from_is_err_and c.from_residual.result c.from_residual.ensures.1 in (
      [],
      adds_none (g.F.Fleet.log c.args.fleet.now),
      subst (λ (r : Result (Unit {0}) Ending). EndedAs S r) (sym (e.1 ∙ ap (λ x. Err x) e.2)) (inr (inl (record {
        request = Resume c.args.scenario.now c.args.recorded.now c.args.name.now;
        asked = asked;
        stuck = record { read = []; held = tt; on = tt; name = c.args.scenario.now; next = refl; cause = c.in_err-bytes.ensures.unread };
        untouched = record { unput = refl; unsaved = c.file_bytes.ensures.kept; log = refl; faults = refl };
      }))),
    )

-- it is no scenario that can be run
pub returns-in_err-study-clause-carried : goal.returns-in_err-study-clause-carried
returns-in_err-study-clause-carried g c = λ words rules asked.
    let S : Around = record {
      words = words;
      outside = outside g.F.Fleet.started g.F.Fleet.faults (rows_in c.args.kinds.now) c.args.fleet.now c.args.fleet.now [];
      rules = rules;
      folder = folder_seen g.D.Folder.files g.D.Folder.faults c.args.folder.now c.file_bytes.new.folder;
      output = output_seen g.K.Sink.written g.K.Sink.faults g.K.Sink.shortages c.args.out.now c.args.out.now;
    } in
    let e = err_from_is_err_and c.from_residual-in_err-study.result c.from_residual-in_err-study.ensures.1 in
    let ending = c.in_err-study.field-0.0 in
    let cause = subst (λ (b : List ℕ). IsUnchecked (map name_of (rows_in c.args.kinds.now)) b ending) c.as_slice.ensures.value c.in_err-study.ensures.unchecked in (
      [],
      adds_none (g.F.Fleet.log c.args.fleet.now),
      subst (λ (r : Result (Unit {0}) Ending). EndedAs S r) (sym (e.1 ∙ ap (λ x. Err x) e.2))
          (first_refused S c.args.scenario.now c.args.recorded.now c.args.name.now asked c.in_ok-bytes.bytes.items ending c.in_ok-bytes.ensures.read cause refl c.file_bytes.ensures.kept refl refl),
    )

-- the record's file isn't read
pub returns-in_err-old-clause-carried : goal.returns-in_err-old-clause-carried
returns-in_err-old-clause-carried g c = λ words rules asked.
    let S : Around = record {
      words = words;
      outside = outside g.F.Fleet.started g.F.Fleet.faults (rows_in c.args.kinds.now) c.args.fleet.now c.args.fleet.now [];
      rules = rules;
      folder = folder_seen g.D.Folder.files g.D.Folder.faults c.args.folder.now c.record_bytes.new.folder;
      output = output_seen g.K.Sink.written g.K.Sink.faults g.K.Sink.shortages c.args.out.now c.args.out.now;
    } in
    let e = err_from_is_err_and c.from_residual-in_err-old.result c.from_residual-in_err-old.ensures.1 in
    let ending = c.in_err-old.field-0.0 in
    let study : IsStudy (map name_of (rows_in c.args.kinds.now)) c.in_ok-bytes.bytes.items = record {
      scenario = c.in_ok-study.study.scenario;
      ranks = c.in_ok-study.study.ranks;
      read = subst (λ (b : List ℕ). scenario_of b ≡ Ok c.in_ok-study.study.scenario) c.as_slice.ensures.value c.in_ok-study.ensures.read;
      wellformed = c.in_ok-study.ensures.wellformed;
      runnable = c.in_ok-study.ensures.runnable;
    } in
    let cause = unreadable_later (g.D.Folder.files c.file_bytes.new.folder) S.folder.files c.args.recorded.now _ _ ending c.file_bytes.ensures.kept
    (risen_after S.folder.faults (g.D.Folder.faults c.file_bytes.new.folder) S.folder.new_faults c.file_bytes.ensures.count) c.in_err-old.ensures.unread in (
      [],
      adds_none (g.F.Fleet.log c.args.fleet.now),
      subst (λ (r : Result (Unit {0}) Ending). EndedAs S r) (sym (e.1 ∙ ap (λ x. Err x) e.2))
          (second_stuck S c.args.scenario.now c.args.recorded.now c.args.name.now asked c.in_ok-bytes.bytes.items ending c.in_ok-bytes.ensures.read study cause refl (c.record_bytes.ensures.kept ∙ c.file_bytes.ensures.kept) refl refl),
    )

-- the run goes on
pub returns-clause-carried : goal.returns-clause-carried
returns-clause-carried g c = λ words rules asked.
    let kept = option_map (λ r. r.items) c.resumed-told.result.record_text in
    let name = c.args.name.now in
    let mid = folder_seen g.D.Folder.files g.D.Folder.faults c.scribe_for.new.folder c.hand_out.new.folder in
    let out = output_seen g.K.Sink.written g.K.Sink.faults g.K.Sink.shortages c.args.out.now c.hand_out.new.out in
    let scenario = c.in_ok-study.study.scenario in
    let ranks = c.in_ok-study.study.ranks in
    let Q : Result (List ℕ) Ending → Type 0 = λ text. (entries : List LogEntry) × Adds entries (g.F.Fleet.log c.args.fleet.now) (g.F.Fleet.log c.resumed-told.new.fleet)
    × IsStudyOutcome (outside g.F.Fleet.started g.F.Fleet.faults (rows_in c.args.kinds.now) c.args.fleet.now c.resumed-told.new.fleet entries)
    c.is_some.result scenario ranks c.as_slice-2.result.now text kept in
    let R : Result (List ℕ) Ending → Type 0 = λ text. RunAnswer mid out name text kept c.hand_out.result in
    let told = either (λ v. v.items) Q R c.resumed-told.result.text c.resumed-told.ensures.text c.resumed-told.ensures.none c.hand_out.ensures.text c.hand_out.ensures.none in
    let text : Result (List ℕ) Ending = told.0 in
    let came : Q text = told.1 in
    let S : Around = record {
      words = words;
      outside = outside g.F.Fleet.started g.F.Fleet.faults (rows_in c.args.kinds.now) c.args.fleet.now c.resumed-told.new.fleet came.0;
      rules = rules;
      folder = folder_seen g.D.Folder.files g.D.Folder.faults c.args.folder.now c.hand_out.new.folder;
      output = out;
    } in
    let bytes = c.in_ok-bytes.bytes.items in
    let old = (c.in_ok-old.ensures.read).held_bytes in
    let study : IsStudy (map name_of (rows_in c.args.kinds.now)) bytes = record {
      scenario = scenario;
      ranks = ranks;
      read = subst (λ (b : List ℕ). scenario_of b ≡ Ok scenario) c.as_slice.ensures.value c.in_ok-study.ensures.read;
      wellformed = c.in_ok-study.ensures.wellformed;
      runnable = c.in_ok-study.ensures.runnable;
    } in
    let outcome = subst (λ w. IsStudyOutcome S.outside w scenario ranks (mended old) text kept) c.is_some.ensures (subst (λ b. IsStudyOutcome S.outside c.is_some.result scenario ranks b text kept) (c.as_slice-2.ensures.value ∙ (c.in_ok-old.ensures.read).is) came.2) in
    let too = subst (λ (f : _). HasBytes f c.args.recorded.now old) c.file_bytes.ensures.kept (c.in_ok-old.ensures.read).held in (
      came.0,
      came.1,
      gone_on S c.args.scenario.now c.args.recorded.now name asked c.hand_out.result bytes old c.in_ok-bytes.ensures.read too study text kept outcome
          (answered_since S.folder mid.files mid.faults (c.scribe_for.ensures.kept ∙ (c.record_bytes.ensures.kept ∙ c.file_bytes.ensures.kept)) (low (low c.file_bytes.ensures.count c.record_bytes.ensures.count) c.scribe_for.ensures.count) out name text kept c.hand_out.result told.2),
    )

-- nothing is done with the fleet where no simulator has a link
pub returns-clause-within : goal.returns-clause-within
returns-clause-within g c =
    does_nothing (g.D.Folder.files c.args.folder.now) c.args.scenario.now c.in_ok-bytes.bytes.items c.as_slice.result.now c.in_ok-bytes.ensures.read c.as_slice.ensures.value
    (λ S read within. c.resumed-told.ensures.within (within_also S c.in_ok-study.study.scenario c.as_slice.result.now read c.in_ok-study.ensures.read within))

-- no draft of its record can be begun
pub returns-in_err-scribe-clause-carried : goal.returns-in_err-scribe-clause-carried
returns-in_err-scribe-clause-carried g c = λ words rules asked.
    let S : Around = record {
      words = words;
      outside = outside g.F.Fleet.started g.F.Fleet.faults (rows_in c.args.kinds.now) c.args.fleet.now c.args.fleet.now [];
      rules = rules;
      folder = folder_seen g.D.Folder.files g.D.Folder.faults c.args.folder.now c.scribe_for.new.folder;
      output = output_seen g.K.Sink.written g.K.Sink.faults g.K.Sink.shortages c.args.out.now c.args.out.now;
    } in
    let e = err_from_is_err_and c.from_residual-in_err-scribe.result c.from_residual-in_err-scribe.ensures.1 in
    let failed = c.in_err-scribe.ensures.unbegun in (
      [],
      adds_none (g.F.Fleet.log c.args.fleet.now),
      subst (λ (r : Result (Unit {0}) Ending). EndedAs S r) (sym (e.1 ∙ ap (λ x. Err x) e.2)) (inr (inl (record {
        request = Resume c.args.scenario.now c.args.recorded.now c.args.name.now;
        asked = asked;
        stuck = record {
          read = [];
          held = tt;
          on = tt;
          name = c.args.scenario.now;
          next = refl;
          cause = inr (inl (
            failed.0,
            risen_after S.folder.faults (g.D.Folder.faults c.record_bytes.new.folder) S.folder.new_faults (low c.file_bytes.ensures.count c.record_bytes.ensures.count) failed.1,
          ));
        };
        untouched = record { unput = refl; unsaved = c.scribe_for.ensures.kept ∙ (c.record_bytes.ensures.kept ∙ c.file_bytes.ensures.kept); log = refl; faults = refl };
      }))),
    )

-- the record that is made is that of the journal which the scribe has
pub hand_out-requires : goal.hand_out-requires
hand_out-requires g c =
    let kept = option_map (λ r. r.items) c.resumed-told.result.record_text in
    record {
      has = subst (λ (s : _). IfSome kept (HasRecord (desk_of g.D.Draft.Sink.written g.D.Draft.Sink.faults g.D.Draft.Sink.shortages s))) (sym c.over.ensures)
          (onward_has g.D.Draft.Sink.written g.D.Draft.Sink.faults g.D.Draft.Sink.shortages g.P.Onlooker.looks kept (record { first = c.in_ok-scribe.scribe; second = c.args.progress }) c.resumed-told.new.onlooker
          c.in_ok-scribe.ensures.new c.in_ok-scribe.ensures.empty c.resumed-told.ensures.shown);
    }
