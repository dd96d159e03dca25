-- Answers to the goals of `top::pace` that the prover leaves.
use Rattle.std.proofs.Common.{true, List, [], ℕ, inl, inr, refl, sym, ap, ◌∙◌, subst, Result, Err, option_map, Option, ◌≤◌}
use Rattle.std.proofs.lemmas.Result.{err_from_is_err_and}
use Rattle.mk_outside.specs.declared.fleet.LogEntry.{LogEntry}
use Rattle.mk_outside.specs.Logs.{Adds}
use Rattle.mk_outside.proofs.OnLogs.{adds_none}
use Rattle.mk_local.specs.Registries.{rows_in}
use Rattle.mosaikrun_words.specs.declared.request.Request.TheVariants.{Paced}
use Rattle.mosaikrun_endings.specs.declared.ending.Ending.{Ending}
use Rattle.mosaikrun_run.specs.Outcomes.{outside}
use Rattle.mosaikrun_paced.specs.Outcomes.{IsPacedOutcome}
use Rattle.mosaikrun_program.specs.Around.{Around, folder_seen, output_seen}
use Rattle.mosaikrun_program.specs.Running.{RunAnswer}
use Rattle.mosaikrun_program.specs.Program.{EndedAs}
use Rattle.mk_session.proofs.Polling.{risen_after}
use Rattle.mosaikrun_program.proofs.CarryingOn.{low}
use Rattle.mosaikrun_program.proofs.Playing.{answered_since, either, is_paced, performed}
use Rattle.mosaikrun_paced.proofs.Telling.{rising_none}
use Rattle.std.specs.Prelude.{IfSome}
use Rattle.mk_scribe.specs.Desks.{desk_of}
use Rattle.mosaikrun_program.specs.inner.Drafting.{HasRecord}
use Rattle.mosaikrun_program.proofs.Recorded.{run_has}
use Rattle.mosaikrun_program.proofs.top.pace.Goals as goal
use Rattle.mk_base.specs.Limits.{most_milliseconds}

-- the scenario's file isn't read
pub returns-in_err-bytes-clause-paced : goal.returns-in_err-bytes-clause-paced
returns-in_err-bytes-clause-paced g c = λ words rules asked.
    let S : Around = record {
      words = words;
      outside = outside g.F.Fleet.started g.F.Fleet.faults (rows_in c.args.kinds.now) c.args.fleet.now c.args.fleet.now [];
      rules = rules;
      folder = folder_seen g.D.Folder.files g.D.Folder.faults c.args.folder.now c.file_bytes.new.folder;
      output = output_seen g.K.Sink.written g.K.Sink.faults g.K.Sink.shortages c.args.out.now c.args.out.now;
    } in
    let e = err_from_is_err_and c.from_residual.result c.from_residual.ensures.1 in (
      [],
      adds_none (g.F.Fleet.log c.args.fleet.now),
      subst (λ (r : Result (Unit {0}) Ending). EndedAs S r) (sym (e.1 ∙ ap (λ x. Err x) e.2)) (inr (inl (record {
        request = Paced c.args.scenario.now c.args.factor c.args.strict c.args.name.now;
        asked = asked;
        stuck = record { read = []; held = tt; on = tt; name = c.args.scenario.now; next = refl; cause = c.in_err-bytes.ensures.unread };
        untouched = record { unput = refl; unsaved = c.file_bytes.ensures.kept; log = refl; faults = refl };
      }))),
    )

-- it is run
pub returns-clause-paced : goal.returns-clause-paced
returns-clause-paced g c = λ words rules asked.
    let kept = option_map (λ r. r.items) c.paced_ran-told.result.record_text in
    let name = c.args.name.now in
    let mid = folder_seen g.D.Folder.files g.D.Folder.faults c.scribe_for.new.folder c.hand_out.new.folder in
    let out = output_seen g.K.Sink.written g.K.Sink.faults g.K.Sink.shortages c.args.out.now c.hand_out.new.out in
    let Q : Result (List ℕ) Ending → Type 0 = λ text. (entries : List LogEntry) × Adds entries (g.F.Fleet.log c.args.fleet.now) (g.F.Fleet.log c.paced_ran-told.new.fleet)
    × IsPacedOutcome (outside g.F.Fleet.started g.F.Fleet.faults (rows_in c.args.kinds.now) c.args.fleet.now c.paced_ran-told.new.fleet entries)
    c.args.factor c.wide.result c.is_some.result c.as_slice.result.now text kept in
    let R : Result (List ℕ) Ending → Type 0 = λ text. RunAnswer mid out name text kept c.hand_out.result in
    let told = either (λ v. v.items) Q R c.paced_ran-told.result.text c.paced_ran-told.ensures.text c.paced_ran-told.ensures.none c.hand_out.ensures.text c.hand_out.ensures.none in
    let text : Result (List ℕ) Ending = told.0 in
    let came : Q text = told.1 in
    let S : Around = record {
      words = words;
      outside = outside g.F.Fleet.started g.F.Fleet.faults (rows_in c.args.kinds.now) c.args.fleet.now c.paced_ran-told.new.fleet came.0;
      rules = rules;
      folder = folder_seen g.D.Folder.files g.D.Folder.faults c.args.folder.now c.hand_out.new.folder;
      output = out;
    } in
    let bytes = c.in_ok-bytes.bytes.items in
    let by_words = subst (λ x. IsPacedOutcome S.outside c.args.factor x c.is_some.result c.as_slice.result.now text kept) c.wide.ensures came.2 in
    let outcome = subst (λ w. IsPacedOutcome S.outside c.args.factor c.args.strict w bytes text kept) c.is_some.ensures (subst (λ b. IsPacedOutcome S.outside c.args.factor c.args.strict c.is_some.result b text kept) c.as_slice.ensures.value by_words) in (
      came.0,
      came.1,
      performed S c.hand_out.result (inr (record {
        request = Paced c.args.scenario.now c.args.factor c.args.strict name;
        asked = asked;
        run = is_paced S c.args.scenario.now c.args.factor c.args.strict name c.hand_out.result (record {
          bytes = bytes;
          held = c.in_ok-bytes.ensures.read;
          text = text;
          kept = kept;
          outcome = outcome;
          ended = answered_since S.folder mid.files mid.faults (c.scribe_for.ensures.kept ∙ c.file_bytes.ensures.kept) (low c.file_bytes.ensures.count c.scribe_for.ensures.count) out name text kept c.hand_out.result told.2;
        });
      })),
    )

-- the clock wasn't looked at
pub returns-in_err-bytes-clause-rising : goal.returns-in_err-bytes-clause-rising
returns-in_err-bytes-clause-rising g c = ([], adds_none (g.F.Fleet.log c.args.fleet.now), λ told. rising_none)

pub returns-clause-rising : goal.returns-clause-rising
returns-clause-rising g c = c.paced_ran-told.ensures.rising

pub paced_ran-told-requires-clause-allowed : goal.paced_ran-told-requires-clause-allowed
paced_ran-told-requires-clause-allowed g c = subst (λ (o : Option ℕ). IfSome o (λ ms. ms ≤ most_milliseconds)) (sym c.wide.ensures) c.requires.allowed

-- no draft of its record can be begun
pub returns-in_err-scribe-clause-paced : goal.returns-in_err-scribe-clause-paced
returns-in_err-scribe-clause-paced g c = λ words rules asked.
    let S : Around = record {
      words = words;
      outside = outside g.F.Fleet.started g.F.Fleet.faults (rows_in c.args.kinds.now) c.args.fleet.now c.args.fleet.now [];
      rules = rules;
      folder = folder_seen g.D.Folder.files g.D.Folder.faults c.args.folder.now c.scribe_for.new.folder;
      output = output_seen g.K.Sink.written g.K.Sink.faults g.K.Sink.shortages c.args.out.now c.args.out.now;
    } in
    let e = err_from_is_err_and c.from_residual-in_err-scribe.result c.from_residual-in_err-scribe.ensures.1 in
    let failed = c.in_err-scribe.ensures.unbegun in (
      [],
      adds_none (g.F.Fleet.log c.args.fleet.now),
      subst (λ (r : Result (Unit {0}) Ending). EndedAs S r) (sym (e.1 ∙ ap (λ x. Err x) e.2)) (inr (inl (record {
        request = Paced c.args.scenario.now c.args.factor c.args.strict c.args.name.now;
        asked = asked;
        stuck = record {
          read = [];
          held = tt;
          on = tt;
          name = c.args.scenario.now;
          next = refl;
          cause = inr (inl (failed.0, risen_after S.folder.faults (g.D.Folder.faults c.file_bytes.new.folder) S.folder.new_faults c.file_bytes.ensures.count failed.1));
        };
        untouched = record { unput = refl; unsaved = c.scribe_for.ensures.kept ∙ c.file_bytes.ensures.kept; log = refl; faults = refl };
      }))),
    )

pub returns-in_err-scribe-clause-rising : goal.returns-in_err-scribe-clause-rising
returns-in_err-scribe-clause-rising g c = ([], adds_none (g.F.Fleet.log c.args.fleet.now), λ told. rising_none)

-- the record that is made is that of the journal which the scribe has
pub hand_out-requires : goal.hand_out-requires
hand_out-requires g c =
    let kept = option_map (λ r. r.items) c.paced_ran-told.result.record_text in
    record {
      has = subst (λ (s : _). IfSome kept (HasRecord (desk_of g.D.Draft.Sink.written g.D.Draft.Sink.faults g.D.Draft.Sink.shortages s))) (sym c.over.ensures)
          (run_has g.D.Draft.Sink.written g.D.Draft.Sink.faults g.D.Draft.Sink.shortages g.P.Onlooker.looks kept (record { first = c.in_ok-scribe.scribe; second = c.args.progress }) c.paced_ran-told.new.onlooker
          c.in_ok-scribe.ensures.new c.in_ok-scribe.ensures.empty true c.paced_ran-told.ensures.shown);
    }
