-- Answers to the goals of `top::play` that the prover leaves.
use Rattle.std.proofs.Common.{List, [], ℕ, inl, inr, refl, sym, ap, ◌∙◌, subst, Result, Err, option_map}
use Rattle.std.proofs.lemmas.Result.{err_from_is_err_and}
use Rattle.mk_outside.specs.declared.fleet.LogEntry.{LogEntry}
use Rattle.mk_outside.specs.Logs.{Adds}
use Rattle.mk_outside.proofs.OnLogs.{adds_none}
use Rattle.mk_local.specs.Registries.{rows_in}
use Rattle.mosaikrun_words.specs.declared.request.Request.TheVariants.{Run}
use Rattle.mosaikrun_endings.specs.declared.ending.Ending.{Ending}
use Rattle.mosaikrun_run.specs.Outcomes.{IsRunOutcome, outside}
use Rattle.mk_run_crew.specs.Wholly.{is_wholly_within}
use Rattle.mk_scenario.specs.Scenarios.{scenario_of}
use Rattle.mk_scribe.specs.Desks.{desk_of}
use Rattle.std.specs.Prelude.{IfSome, not}
use Rattle.mosaikrun_program.specs.inner.Drafting.{HasRecord}
use Rattle.mosaikrun_program.specs.Around.{Around, folder_seen, output_seen}
use Rattle.mosaikrun_program.specs.Running.{RunAnswer}
use Rattle.mosaikrun_program.specs.Program.{EndedAs}
use Rattle.mosaikrun_program.proofs.Fleetless.{does_nothing}
use Rattle.mk_session.proofs.Polling.{risen_after}
use Rattle.mosaikrun_program.proofs.CarryingOn.{low}
use Rattle.mosaikrun_program.proofs.Recorded.{none_unread, read_has}
use Rattle.mosaikrun_program.proofs.Playing.{answered_since, either, is_run, performed}
use Rattle.mosaikrun_program.proofs.top.play.Goals as goal

-- the scenario's file isn't read
pub returns-in_err-bytes-clause-played : goal.returns-in_err-bytes-clause-played
returns-in_err-bytes-clause-played g c = λ words rules asked.
    let S : Around = record {
      words = words;
      outside = outside g.F.Fleet.started g.F.Fleet.faults (rows_in c.args.kinds.now) c.args.fleet.now c.args.fleet.now [];
      rules = rules;
      folder = folder_seen g.D.Folder.files g.D.Folder.faults c.args.folder.now c.file_bytes.new.folder;
      output = output_seen g.K.Sink.written g.K.Sink.faults g.K.Sink.shortages c.args.out.now c.args.out.now;
    } in
    let e = err_from_is_err_and c.from_residual.result c.from_residual.ensures.1 in (
      [],
      adds_none (g.F.Fleet.log c.args.fleet.now),
      subst (λ (r : Result (Unit {0}) Ending). EndedAs S r) (sym (e.1 ∙ ap (λ x. Err x) e.2)) (inr (inl (record {
        request = Run c.args.scenario.now c.args.name.now;
        asked = asked;
        stuck = record { read = []; held = tt; on = tt; name = c.args.scenario.now; next = refl; cause = c.in_err-bytes.ensures.unread };
        untouched = record { unput = refl; unsaved = c.file_bytes.ensures.kept; log = refl; faults = refl };
      }))),
    )

-- it is run
pub returns-clause-played : goal.returns-clause-played
returns-clause-played g c = λ words rules asked.
    let kept = option_map (λ r. r.items) c.ran-told.result.record_text in
    let name = c.args.name.now in
    let mid = folder_seen g.D.Folder.files g.D.Folder.faults c.scribe_for.new.folder c.hand_out.new.folder in
    let out = output_seen g.K.Sink.written g.K.Sink.faults g.K.Sink.shortages c.args.out.now c.hand_out.new.out in
    let Q : Result (List ℕ) Ending → Type 0 = λ text. (entries : List LogEntry) × Adds entries (g.F.Fleet.log c.args.fleet.now) (g.F.Fleet.log c.ran-told.new.fleet)
    × IsRunOutcome (outside g.F.Fleet.started g.F.Fleet.faults (rows_in c.args.kinds.now) c.args.fleet.now c.ran-told.new.fleet entries)
    c.is_some.result c.as_slice.result.now text kept in
    let R : Result (List ℕ) Ending → Type 0 = λ text. RunAnswer mid out name text kept c.hand_out.result in
    let told = either (λ v. v.items) Q R c.ran-told.result.text c.ran-told.ensures.text c.ran-told.ensures.none c.hand_out.ensures.text c.hand_out.ensures.none in
    let text : Result (List ℕ) Ending = told.0 in
    let came : Q text = told.1 in
    let S : Around = record {
      words = words;
      outside = outside g.F.Fleet.started g.F.Fleet.faults (rows_in c.args.kinds.now) c.args.fleet.now c.ran-told.new.fleet came.0;
      rules = rules;
      folder = folder_seen g.D.Folder.files g.D.Folder.faults c.args.folder.now c.hand_out.new.folder;
      output = out;
    } in
    let bytes = c.in_ok-bytes.bytes.items in
    let outcome = subst (λ w. IsRunOutcome S.outside w bytes text kept) c.is_some.ensures (subst (λ b. IsRunOutcome S.outside c.is_some.result b text kept) c.as_slice.ensures.value came.2) in (
      came.0,
      came.1,
      performed S c.hand_out.result (inr (record {
        request = Run c.args.scenario.now name;
        asked = asked;
        run = is_run S c.args.scenario.now name c.hand_out.result (record {
          bytes = bytes;
          held = c.in_ok-bytes.ensures.read;
          text = text;
          kept = kept;
          outcome = outcome;
          ended = answered_since S.folder mid.files mid.faults (c.scribe_for.ensures.kept ∙ c.file_bytes.ensures.kept) (low c.file_bytes.ensures.count c.scribe_for.ensures.count) out name text kept c.hand_out.result told.2;
        });
      })),
    )

-- nothing is done with the fleet where no simulator has a link
pub returns-clause-within : goal.returns-clause-within
returns-clause-within g c = does_nothing (g.D.Folder.files c.args.folder.now) c.args.scenario.now c.in_ok-bytes.bytes.items c.as_slice.result.now c.in_ok-bytes.ensures.read c.as_slice.ensures.value c.ran-told.ensures.within

-- no draft of its record can be begun
pub returns-in_err-scribe-clause-played : goal.returns-in_err-scribe-clause-played
returns-in_err-scribe-clause-played g c = λ words rules asked.
    let S : Around = record {
      words = words;
      outside = outside g.F.Fleet.started g.F.Fleet.faults (rows_in c.args.kinds.now) c.args.fleet.now c.args.fleet.now [];
      rules = rules;
      folder = folder_seen g.D.Folder.files g.D.Folder.faults c.args.folder.now c.scribe_for.new.folder;
      output = output_seen g.K.Sink.written g.K.Sink.faults g.K.Sink.shortages c.args.out.now c.args.out.now;
    } in
    let e = err_from_is_err_and c.from_residual-in_err-scribe.result c.from_residual-in_err-scribe.ensures.1 in
    let failed = c.in_err-scribe.ensures.unbegun in (
      [],
      adds_none (g.F.Fleet.log c.args.fleet.now),
      subst (λ (r : Result (Unit {0}) Ending). EndedAs S r) (sym (e.1 ∙ ap (λ x. Err x) e.2)) (inr (inl (record {
        request = Run c.args.scenario.now c.args.name.now;
        asked = asked;
        stuck = record {
          read = [];
          held = tt;
          on = tt;
          name = c.args.scenario.now;
          next = refl;
          cause = inr (inl (failed.0, risen_after S.folder.faults (g.D.Folder.faults c.file_bytes.new.folder) S.folder.new_faults c.file_bytes.ensures.count failed.1));
        };
        untouched = record { unput = refl; unsaved = c.scribe_for.ensures.kept ∙ c.file_bytes.ensures.kept; log = refl; faults = refl };
      }))),
    )

-- the record that is made is that of the journal which the scribe has
pub hand_out-requires : goal.hand_out-requires
hand_out-requires g c =
    let kept = option_map (λ r. r.items) c.ran-told.result.record_text in
    let Q : Result (List ℕ) Ending → Type 0 = λ text. (entries : List LogEntry) × Adds entries (g.F.Fleet.log c.args.fleet.now) (g.F.Fleet.log c.ran-told.new.fleet)
    × IsRunOutcome (outside g.F.Fleet.started g.F.Fleet.faults (rows_in c.args.kinds.now) c.args.fleet.now c.ran-told.new.fleet entries)
    c.is_some.result c.as_slice.result.now text kept in
    let told = either (λ v. v.items) Q Q c.ran-told.result.text c.ran-told.ensures.text c.ran-told.ensures.none c.ran-told.ensures.text c.ran-told.ensures.none in
    record {
      has = subst (λ (s : _). IfSome kept (HasRecord (desk_of g.D.Draft.Sink.written g.D.Draft.Sink.faults g.D.Draft.Sink.shortages s))) (sym c.over.ensures)
          (read_has g.D.Draft.Sink.written g.D.Draft.Sink.faults g.D.Draft.Sink.shortages g.P.Onlooker.looks kept (record { first = c.in_ok-scribe.scribe; second = c.args.progress }) c.ran-told.new.onlooker
          c.in_ok-scribe.ensures.new c.in_ok-scribe.ensures.empty c.as_slice.result.now (λ s. not (is_wholly_within s)) (scenario_of c.as_slice.result.now) refl c.ran-told.ensures.shown
          (λ f e. none_unread (outside g.F.Fleet.started g.F.Fleet.faults (rows_in c.args.kinds.now) c.args.fleet.now c.ran-told.new.fleet told.1.0) c.is_some.result c.as_slice.result.now told.0 kept f told.1.2 e));
    }
