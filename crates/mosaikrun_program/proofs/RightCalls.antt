-- Every call of the program is right: the headline, from what its answer says.
use Rattle.std.proofs.Common.{◌≡◌, ℕ, Bool, false, ◌⊎◌, inl, inr, refl, sym, ap, ◌∙◌, subst, arith, List, [], map, Option, None, Some, Result, Ok, Err, ◌∷◌}
use Rattle.std.specs.Prelude.{is_some, option_map}
use Rattle.mk_base.specs.declared.LinkNo.{LinkNo}
use Rattle.mk_base.specs.Lists.{BeginsWith}
use Rattle.mk_base.proofs.Lists.{append_nil}
use Rattle.mk_plan.specs.declared.Plan.{Plan}
use Rattle.mk_plan.specs.declared.Entry.{Entry}
use Rattle.mk_plan.specs.declared.Message.{Message}
use Rattle.mk_plan.specs.Journals.{bare, got, sent}
use Rattle.mk_plan.specs.Sequential.{Messages, run_items}
use Rattle.mk_outside.specs.Folders.{Files, with_file}
use Rattle.mk_outside.specs.Sinks.{appended}
use Rattle.mk_scenario.specs.declared.parts.Scenario.{Scenario}
use Rattle.mk_scenario_demo.specs.Demo.{demo_scenario}
use Rattle.mk_run_laws.specs.Handshake.{setup_count, sim_link}
use Rattle.mk_run_laws.specs.Rests.{run_messages}
use Rattle.mk_run_links.specs.Entries.{IsRunLink}
use Rattle.mk_run_links.proofs.OnEntries.{on_or_clock}
use Rattle.mk_run_local.specs.Made.{kind_reply_of}
use Rattle.mk_run_crew.specs.declared.halt.Halt.TheVariants as halt
use Rattle.mk_run_crew.specs.Halted.{count_to}
use Rattle.mk_run.specs.declared.outcome.Outcome.TheVariants as outcome
use Rattle.mk_run.specs.Ends.{QueuedAll}
use Rattle.mk_run.proofs.RunRight.{runs_right}
use Rattle.mk_record.specs.Texts.{record_text}
use Rattle.mk_record_mend.specs.Mended.{mended}
use Rattle.mosaikrun_words.specs.declared.request.Request.{Request}
use Rattle.mosaikrun_words.specs.declared.request.Request.TheVariants.{Files as Reads, Run, Resume, Paced, Demo}
use Rattle.mosaikrun_endings.specs.declared.ending.Ending.{Ending}
use Rattle.mosaikrun_endings.specs.declared.ending.Ending.TheVariants.{Usage, Missing, TooLong, Scenario as BadScenario, Watches, Cycle, Launch, Setup, Record, Wrong, Failed, LoopLimit, Link, Short, Differs, OtherPlan, OtherMessage, Late, Fleet, Folder, Output, Entries, LongItem, Mem}
use Rattle.mosaikrun_endings.specs.Endings.{status_of}
use Rattle.mosaikrun_sayings.specs.Sayings.{ids_of}
use Rattle.mosaikrun_run.specs.declared.sayings.Form.{Form}
use Rattle.mosaikrun_run.specs.declared.sayings.Form.TheVariants.{Report, Summary}
use Rattle.mk_setup.specs.Ranked.{AreRanksOf}
use Rattle.mosaikrun_check.specs.Runnable.{IsRunnable, IsUnrunnable}
use Rattle.mosaikrun_check.proofs.OneRanking.{fault_status}
use Rattle.mosaikrun_run.specs.Outcomes.{IsIdle, IsNoScenario, IsPlayed, IsSaid, IsScenarioOutcome, IsUnrun, IsUnrunnableScenario, exchange_in}
use Rattle.mosaikrun_run.specs.Sayings.{halt_ending, record_of, text_of}
use Rattle.mosaikrun_run.proofs.Reporting.{said_is_done, texts_sequential}
use Rattle.mk_local.specs.Kinds.{name_of}
use Rattle.mk_record_read.specs.declared.saved.Saved.{Saved}
use Rattle.mk_resume_loop.specs.declared.ending.ResumeEnd.{ResumeEnd}
use Rattle.mk_resume_loop.specs.declared.ending.ResumeEnd.TheVariants as resume_end
use Rattle.mk_resume.specs.Resumed.{HasFaultySaved, IsRefusedBy}
use Rattle.mosaikrun_sayings.specs.Stops.{stop_of}
use Rattle.mosaikrun_run.specs.Sayings.{saying_of}
use Rattle.mosaikrun_resume.specs.Outcomes.{HasGoneOn, IsNoStudy, IsNotTaken, IsResumeOutcome, IsSavedOutcome, IsStudy}
use Rattle.mosaikrun_resume.specs.Sayings.{resume_saying}
use Rattle.mosaikrun_resume.proofs.Reporting as resuming
use Rattle.mosaikrun_program.specs.Commands.{AreHeld, HasBytes, OfTwoBy}
use Rattle.mosaikrun_program.specs.Resuming.{IsNotOnward, IsRightOnward, IsRightResume}
use Rattle.mosaikrun_program.specs.Around.{Around, FolderSeen}
use Rattle.mosaikrun_program.specs.Commands.{IsAsked, IsOutcomeOf, IsUnreadable, target_of}
use Rattle.mosaikrun_program.specs.Running.{IsDoneOver, IsFolderAfter, IsSaved, IsUnsaved, RunAnswer}
use Rattle.mosaikrun_program.specs.Answers.{TextAnswer}
use Rattle.mosaikrun_program.specs.Making.{HasMade}
use Rattle.mosaikrun_program.specs.Program.{EndedAs, HasPerformed, IsMisused, status}
use Rattle.mosaikrun_program.specs.Headline.{IsPut, IsRightCall, IsRightFor, IsRightRun, IsRightStudy, NothingWasRun, MayCome}
use Rattle.mosaikrun_program.proofs.Answering.{one_request}
use Rattle.mosaikrun_program.proofs.Deciding.{unread_status}
use Rattle.mosaikrun_program.specs.Pacing.{IsRightPaced, IsRightPacedRun}
use Rattle.mk_plan.specs.Report.{report}
use Rattle.mk_scenario.specs.Scenarios.{scenario_of}
use Rattle.mk_pace_laws.specs.declared.end.PaceEnd.TheVariants as pace_end
use Rattle.mk_pace_laws.proofs.PacesRight.{paces_right}
use Rattle.mk_pace_laws.specs.Moments.{timing}
use Rattle.mosaikrun_paced.specs.Outcomes.{IsPacedOutcome, IsPacedRun, IsPacedScenario}
use Rattle.mosaikrun_paced.specs.Sayings.{pace_saying}
use Rattle.mosaikrun_paced.proofs.Reporting as pacing
use Rattle.mosaikrun_program.proofs.Playing.{WasPaced, WasRun, was_paced, was_run}

-- no ending has the status 0
pub not_zero : (e : Ending) → status_of e ≡ 0 → ⊥
not_zero Usage zero = omega (arith, zero)
not_zero (Missing name) zero = omega (arith, zero)
not_zero (TooLong name count) zero = omega (arith, zero)
not_zero (BadScenario fault) zero = omega (arith, zero)
not_zero (Watches fault) zero = omega (arith, zero)
not_zero (Cycle sims) zero = omega (arith, zero)
not_zero (Launch sim fault) zero = omega (arith, zero)
not_zero (Setup setup) zero = omega (arith, zero)
not_zero (Record line fault) zero = omega (arith, zero)
not_zero (Wrong sim place cause) zero = omega (arith, zero)
not_zero (Failed sim text) zero = omega (arith, zero)
not_zero (LoopLimit sim time) zero = omega (arith, zero)
not_zero (Link sim fault) zero = omega (arith, zero)
not_zero (Short outstanding) zero = omega (arith, zero)
not_zero (Differs entry) zero = omega (arith, zero)
not_zero (OtherPlan part) zero = omega (arith, zero)
not_zero (OtherMessage sim place) zero = omega (arith, zero)
not_zero (Late sim time late allowed) zero = omega (arith, zero)
not_zero Fleet zero = omega (arith, zero)
not_zero Folder zero = omega (arith, zero)
not_zero Output zero = omega (arith, zero)
not_zero (Entries entries) zero = omega (arith, zero)
not_zero (LongItem sim length) zero = omega (arith, zero)
not_zero Mem zero = omega (arith, zero)

-- messages that may come: those that were heard of whom has a link, and those that were got of others
abbrev coming : Option LinkNo → (LinkNo → List Message) → List Message → List Message
coming None heard own = own
coming (Some l) heard own = heard l

goes_on : (link : Option LinkNo) (heard : LinkNo → List Message) (own : List Message) → ((l : LinkNo) → link ≡ Some l → BeginsWith (heard l) own) → BeginsWith (coming link heard own) own
goes_on None heard own begins = ([], sym (append_nil own))
goes_on (Some l) heard own begins = begins l refl

is_heard : (link : Option LinkNo) (heard : LinkNo → List Message) (own : List Message) (l : LinkNo) → link ≡ Some l → BeginsWith (coming link heard own) (heard l)
is_heard None heard own l is = cc
is_heard (Some k) heard own l is = let same : k ≡ l = cc in ([], ap heard same ∙ sym (append_nil (heard l)))

-- what comes of a text or an ending, by the status of the call: the text was put out at status 0;
-- where there is none, nothing was, and the status isn't 0; and it is 8 for want of memory
record Shown (C : Around) (text : Result (List ℕ) Ending) (n : ℕ) : Type 0 where
  put : (t : List ℕ) → text ≡ Ok t → n ≡ 0 → C.output.after ≡ appended t C.output.before
  unput : (e : Ending) → text ≡ Err e → (C.output.after ≡ C.output.before) × (n ≡ 0 → ⊥)
  wanting : text ≡ Err Mem → n ≡ 8

-- the ranks with which a scenario is run are its own
own_ranks : (kinds : List (List ℕ)) (S : Scenario) (ranks : List ℕ) → IsRunnable kinds S ranks → AreRanksOf S ranks
own_ranks kinds S ranks runnable = record { ranking = runnable.ranked; each_once = runnable.each_once; rising = runnable.rising }

-- at status 0 the record of this plan and journal was saved under the name that was given for it
abbrev Filed : Around → Option (List ℕ) → ℕ → Plan → List Entry → Type 0
Filed C saved n P J = n ≡ 0 → (name : List ℕ) → saved ≡ Some name → C.folder.files_after ≡ option_map (with_file name (record_text P J)) C.folder.files

-- no file was saved where there is no record
unsaved : (folder : FolderSeen) (name : Option (List ℕ)) (e : Ending) → IsSaved folder name None ⊎ IsUnsaved folder name e → folder.files_after ≡ folder.files
unsaved folder None e (inl same) = same
unsaved folder (Some name) e (inl same) = same
unsaved folder name e (inr un) = un.0

-- a scenario that can't be run has the status 3
unrunnable_status : (kinds : List (List ℕ)) (S : Scenario) (e : Ending) → IsUnrunnable kinds S e → (e ≡ Mem) ⊎ (status_of e ≡ 3)
unrunnable_status kinds S e (inl mem) = inl mem
unrunnable_status kinds S e (inr (inl circle)) = inr (ap status_of circle.is)
unrunnable_status kinds S e (inr (inr unprepared)) = inr (ap status_of unprepared.unbegun.is)

-- where nothing was done, nothing was run: the ending is of want of memory, or has the status 3
nothing_run : (C : Around) (name : Option (List ℕ)) (text : Result (List ℕ) Ending) (kept : Option (List ℕ)) (r : Result (Unit {0}) Ending) → RunAnswer C.folder C.output name text kept r
    → (e : Ending) → text ≡ Err e → IsIdle C.outside kept → (e ≡ Mem) ⊎ (status_of e ≡ 3) → NothingWasRun C (status r)
nothing_run C name (Ok t) kept r said e is idle why = cc
nothing_run C name (Err f) kept (Ok done) said e is idle why = absurd said
nothing_run C name (Err f) kept (Err g) said e is idle why = record {
  untouched = record {
    unput = said.0;
    unsaved = unsaved C.folder name g (subst (λ (k : Option (List ℕ)). IsSaved C.folder name k ⊎ IsUnsaved C.folder name g) idle.unrecorded said.2);
    log = idle.quiet;
    faults = idle.same_faults;
  };
  status = elim said.1 [
    | inl same ↦ elim why [
      | inl mem ↦ (let all : g ≡ Mem = cc in inr (inr (ap status_of all)))
      | inr three ↦ (let all : g ≡ e = cc in inl (ap status_of all ∙ three))
    ]
    | inr mem ↦ inr (inr (ap status_of mem))
  ];
}

module _ (C : Around) (form : Form) (wanted : Bool) (S : Scenario) (saved : Option (List ℕ)) (n : ℕ) where
  -- a run with its plan
  played : (text : Result (List ℕ) Ending) (kept : Option (List ℕ)) (p : IsPlayed C.outside form wanted S text kept) → (n ≡ 0 → p.outcome ≡ outcome.Done)
      → (n ≡ 0 → (R : Messages) → MayCome C.outside S p.plan R → C.output.after ≡ appended (text_of form p.plan (run_items p.plan R)) C.output.before)
      → Filed C saved n p.plan p.journal → IsRightStudy C form S saved n
  played text kept p over told filed =
      let O = C.outside in
      let right = runs_right (exchange_in O S) p.plan p.journal O.faults O.new_faults p.outcome p.run.run in
      let come : Messages = λ i. coming (sim_link O.started S i) (run_messages S O.log i) (got p.journal i) in
      record {
        plan = Some p.plan;
        there = λ zero. refl;
        unplanned = λ none. cc;
        links = λ i l linked.
            let t = right.links i l linked in
            record {
              asked = setup_count S i;
              items = t.items;
              right = t.right;
              all = λ zero P is R may.
                  let same : p.plan ≡ P = cc in
                  let queued = subst (λ e. QueuedAll e (sent p.journal i) t.items) (over zero) t.all in
                  subst (λ (X : Plan). (R : Messages) → MayCome O S X R → map bare t.items ≡ run_items X R i) same
                  (λ R may. ap (map bare) queued ∙ ((right.done (over zero)).all R may i).0) R may;
              whole = λ other. t.whole;
            };
        on_links = on_or_clock (IsRunLink O.started S) O.log p.run.run.on_links;
        run = record {
          ranks = p.ranks;
          ranked = own_ranks (map name_of O.kinds) S p.ranks p.runnable;
          answers = p.run.answers;
          made = p.run.made;
          valid = p.run.run.valid;
          heard = λ i l linked. (p.run.run.links i l linked).1.replied ∙ p.run.told i l linked;
          within = p.run.kinds;
          journal = p.journal;
          of_run = p.run.run.journal;
          said = λ i l linked. let t = p.run.run.links i l linked in record { items = t.0; first = t.1.items_sent; said = t.1.said };
          promised = right.promised;
          setup_rests = p.run.run.setup_rests;
          rests = right.rests;
          finished = λ zero. (right.done (over zero)).finished;
          possible = λ zero. (
            come,
            record {
              by_kind = (right.done (over zero)).answers come (λ i low. goes_on (sim_link O.started S i) (run_messages S O.log i) (got p.journal i) (p.run.run.journal.links i));
              links = λ i l linked. is_heard (sim_link O.started S i) (run_messages S O.log i) (got p.journal i) l linked;
            },
          );
          text = told;
          recorded = filed;
        };
      }

  -- a run with its plan, by what came of it
  played_as : (text : Result (List ℕ) Ending) (kept : Option (List ℕ)) → (p : IsPlayed C.outside form wanted S text kept) → Shown C text n → (kept ≡ record_of wanted p.plan p.journal → Filed C saved n p.plan p.journal) → IsRightStudy C form S saved n
  played_as (Ok t) kept p shown filed =
      played (Ok t) kept p
      (λ zero. (said_is_done form (ids_of S) p.plan p.journal p.outcome t p.said).0)
      (λ zero R may. shown.put t refl zero ∙ ap (λ x. appended x C.output.before) (texts_sequential C.outside form wanted S t kept p R may).0)
      (elim p.recorded [ inl is ↦ filed is | inr none ↦ cc ])
  played_as (Err e) kept p shown filed =
      let not = (shown.unput e refl).1 in
      played (Err e) kept p (λ zero. absurd (not zero)) (λ zero R may. absurd (not zero)) (λ zero name is. absurd (not zero))

  -- a handshake that ended early
  halted : (text : Result (List ℕ) Ending) (kept : Option (List ℕ)) → IsUnrun C.outside S text kept → (n ≡ 0 → ⊥) → (text ≡ Err Mem → n ≡ 8) → IsRightStudy C form S saved n
  halted text kept u not wanting = record {
    plan = None;
    there = λ zero. absurd (not zero);
    unplanned = λ none. record { ranks = u.ranks; ranked = own_ranks (map name_of C.outside.kinds) S u.ranks u.runnable; halt = u.halt; halted = u.halted; wanting = λ mem. wanting (mem_said mem) };
    links = λ i l linked. record {
      asked = count_to i u.halted.queued;
      items = [];
      right = u.halted.says (kind_reply_of C.outside.kinds S) i l linked;
      all = λ zero P is R may. absurd (not zero);
      whole = λ other. u.halted.whole (λ mem. other (wanting (mem_said mem.0), mem.1)) i l linked;
    };
    on_links = u.halted.on_links;
    run = tt;
  }
    where
      mem_said : u.halt ≡ halt.Mem → text ≡ Err Mem
      mem_said mem = elim u.said [ inl same ↦ same ∙ ap (λ h. Err (halt_ending (ids_of S) h)) mem | inr is ↦ is ]

  unsaid : (text : Result (List ℕ) Ending) (kept : Option (List ℕ)) → IsUnrun C.outside S text kept → Shown C text n → n ≡ 0 → ⊥
  unsaid text kept u shown = elim u.said [ inl same ↦ (shown.unput _ same).1 | inr is ↦ (shown.unput Mem is).1 ]

  -- what came of a scenario
  studied : (text : Result (List ℕ) Ending) (kept : Option (List ℕ)) → IsScenarioOutcome C.outside form wanted S text kept → Shown C text n
      → (IsUnrunnableScenario C.outside S text kept → NothingWasRun C n)
      → ((P : Plan) (J : List Entry) → kept ≡ record_of wanted P J → Filed C saved n P J) → NothingWasRun C n ⊎ IsRightStudy C form S saved n
  studied text kept (inl unready) shown nothing filed = inl (nothing unready)
  studied text kept (inr (inl unrun)) shown nothing filed = inr (halted text kept unrun (unsaid text kept unrun shown) shown.wanting)
  studied text kept (inr (inr p)) shown nothing filed = inr (played_as text kept p shown (filed p.plan p.journal))

-- what the answer of what was done over a fleet shows
shown_by_run : (C : Around) (name : Option (List ℕ)) (text : Result (List ℕ) Ending) (kept : Option (List ℕ)) (r : Result (Unit {0}) Ending) → RunAnswer C.folder C.output name text kept r → Shown C text (status r)
shown_by_run C name (Ok t) kept (Ok done) said = record { put = λ x is zero. said.0 ∙ ap (λ y. appended y C.output.before) (let same : t ≡ x = cc in same); unput = λ e is. cc; wanting = λ is. cc }
shown_by_run C name (Err why) kept (Ok done) said = absurd said
shown_by_run C name (Ok t) kept (Err e) said = record { put = λ x is zero. absurd (not_zero e zero); unput = λ f is. cc; wanting = λ is. cc }
shown_by_run C name (Err why) kept (Err e) said = record {
  put = λ x is. cc;
  unput = λ f is. (said.0, not_zero e);
  wanting = λ is. elim said.1 [ inl same ↦ (let mem : why ≡ Mem = cc in ap status_of (same ∙ mem)) | inr mem ↦ ap status_of mem ];
}

-- the record was saved under the name that was given for it, where the answer is that all is done
filed_by : (C : Around) (name : Option (List ℕ)) (text : Result (List ℕ) Ending) (kept : Option (List ℕ)) (r : Result (Unit {0}) Ending) → RunAnswer C.folder C.output name text kept r
    → (P : Plan) (J : List Entry) → kept ≡ record_of (is_some name) P J → Filed C name (status r) P J
filed_by C name text kept (Err e) said P J is zero target named = absurd (not_zero e zero)
filed_by C name (Err why) kept (Ok done) said P J is zero target named = absurd said
filed_by C None (Ok t) kept (Ok done) said P J is zero target named = cc
filed_by C (Some given) (Ok t) kept (Ok done) said P J is zero target named =
    let same : given ≡ target = cc in
    subst (λ (x : List ℕ). C.folder.files_after ≡ option_map (with_file x (record_text P J)) C.folder.files) same
    (subst (λ (k : Option (List ℕ)). IsFolderAfter (Some given) k C.folder.files C.folder.files_after) is said.1)

-- so it is where the bytes are no scenario, or it can't be run
module _ (C : Around) (name : Option (List ℕ)) (text : Result (List ℕ) Ending) (kept : Option (List ℕ)) (r : Result (Unit {0}) Ending) (said : RunAnswer C.folder C.output name text kept r) where
  no_scenario : (bytes : List ℕ) → IsNoScenario C.outside bytes text kept → NothingWasRun C (status r)
  no_scenario bytes none = nothing_run C name text kept r said none.ending none.is none.idle (fault_status (map name_of C.outside.kinds) bytes none.ending (inl none.cause))

  unrunnable : (S : Scenario) → IsUnrunnableScenario C.outside S text kept → NothingWasRun C (status r)
  unrunnable S unready = nothing_run C name text kept r said unready.ending unready.is unready.idle (unrunnable_status (map name_of C.outside.kinds) S unready.ending unready.cause)

-- a run
run_right : (C : Around) (r : Result (Unit {0}) Ending) (scenario : List ℕ) (name : Option (List ℕ)) → WasRun C scenario name r → NothingWasRun C (status r) ⊎ IsRightRun C scenario name (status r)
run_right C r scenario name ran =
    let shown = shown_by_run C name ran.text ran.kept r ran.ended in
    elim ran.outcome [
      | inl none ↦ inl (no_scenario C name ran.text ran.kept r ran.ended ran.bytes none)
      | inr has ↦ elim (studied C Report (is_some name) has.scenario name (status r) ran.text ran.kept has.outcome shown (unrunnable C name ran.text ran.kept r ran.ended has.scenario) (filed_by C name ran.text ran.kept r ran.ended)) [
        | inl not ↦ inl not
        | inr study ↦ inr (record { bytes = ran.bytes; held = ran.held; scenario = has.scenario; read = has.read; study = study })
      ]
    ]

-- a run that goes on
module _ (C : Around) (name : Option (List ℕ)) (text : Result (List ℕ) Ending) (kept : Option (List ℕ)) (r : Result (Unit {0}) Ending) (said : RunAnswer C.folder C.output name text kept r) where
  seen : Shown C text (status r)
  seen = shown_by_run C name text kept r said

  -- an ending is said
  ending_seen : (e : Ending) → IsSaid (Err e) text → (C.output.after ≡ C.output.before) × (status r ≡ 0 → ⊥)
  ending_seen e (inl same) = seen.unput e same
  ending_seen e (inr mem) = seen.unput Mem mem

  -- nothing was done
  quiet : (e : Ending) → text ≡ Err e → IsIdle C.outside kept → (e ≡ Mem) ⊎ (status_of e ≡ 3) → NothingWasRun C (status r)
  quiet = nothing_run C name text kept r said

  refused_ending : (ids : List (List ℕ)) (P : Plan) (J : List Entry) (old : Saved) (end : ResumeEnd) → IsRefusedBy P old end ⊎ HasFaultySaved P old J end → (e : Ending) × (resume_saying ids P J end ≡ Err e)
  refused_ending ids P J old (resume_end.Outcome o) (inl h) = (Mem, ap (saying_of Report ids P J) h.1)
  refused_ending ids P J old (resume_end.OtherPlan n) (inl h) = (OtherPlan n, refl)
  refused_ending ids P J old (resume_end.OtherEntry n) (inl h) = (Differs n, refl)
  refused_ending ids P J old (resume_end.Differs sim place saved_ heard) (inl h) = absurd h
  refused_ending ids P J old end (inr h) = (stop_of P J h.fault, ap (resume_saying ids P J) h.is)

  module _ (S : Scenario) (ranks : List ℕ) (old : Saved) where
    not_onward : IsUnrun C.outside S text kept ⊎ IsNotTaken C.outside S ranks old text kept → IsNotOnward C S ranks old (status r)
    not_onward (inl unrun) = let t = ending_seen (halt_ending (ids_of S) unrun.halt) unrun.said in record { untaken = (text, kept, inl unrun); wanting = seen.wanting; unput = t.0; status = t.1 }
    not_onward (inr rest) =
        let e = refused_ending (ids_of S) rest.plan rest.journal old rest.end rest.cause in
        let t = ending_seen e.0 (subst (λ (x : Result (List ℕ) Ending). IsSaid x text) e.1 rest.said) in
        record { untaken = (text, kept, inr rest); wanting = seen.wanting; unput = t.0; status = t.1 }

-- it went on
onward : (C : Around) (name : Option (List ℕ)) (text : Result (List ℕ) Ending) (kept : Option (List ℕ)) (r : Result (Unit {0}) Ending) (said : RunAnswer C.folder C.output name text kept r) (S : Scenario) (ranks : List ℕ) (old : Saved)
    → HasGoneOn C.outside (is_some name) S ranks old text kept → IsRightOnward C S ranks old name (status r)
onward C name (Ok t) kept r said S ranks old p =
    let shown = shown_by_run C name (Ok t) kept r said in
    let whole = resuming.texts_sequential C.outside (is_some name) S ranks old t kept p in
    record {
      plan = p.plan;
      journal = p.journal;
      end = p.end;
      run = p.run;
      done = λ zero. (resuming.done_alone (ids_of S) p.plan p.journal p.end t p.said).0;
      wanting = λ mem. shown.wanting (elim p.said [ inl same ↦ same ∙ ap (resume_saying (ids_of S) p.plan p.journal) mem | inr is ↦ is ]);
      text = λ zero R goes. shown.put t refl zero ∙ ap (λ x. appended x C.output.before) (whole.text_is R goes);
      heard = λ zero. whole.heard;
      recorded = elim p.recorded [ inl is ↦ filed_by C name (Ok t) kept r said p.plan p.journal is | inr none ↦ cc ];
    }
onward C name (Err e) kept r said S ranks old p =
    let shown = shown_by_run C name (Err e) kept r said in
    let not = (shown.unput e refl).1 in
    record {
      plan = p.plan;
      journal = p.journal;
      end = p.end;
      run = p.run;
      done = λ zero. absurd (not zero);
      wanting = λ mem. shown.wanting (elim p.said [ inl same ↦ same ∙ ap (resume_saying (ids_of S) p.plan p.journal) mem | inr is ↦ is ]);
      text = λ zero R goes. absurd (not zero);
      heard = λ zero i l linked low. absurd (not zero);
      recorded = λ zero target named. absurd (not zero);
    }

resume_right : (C : Around) (r : Result (Unit {0}) Ending) (scenario recorded : List ℕ) (name : Option (List ℕ)) → IsDoneOver C (Resume scenario recorded name) r → NothingWasRun C (status r) ⊎ IsRightResume C scenario recorded name (status r)
resume_right C r scenario recorded name d = by d.read d.held d.outcome
  where
    wanted : Bool
    wanted = is_some name

    no_study : (bytes : List ℕ) → IsNoStudy C.outside bytes d.text d.kept → NothingWasRun C (status r)
    no_study bytes none = quiet C name d.text d.kept r d.ended none.ending none.is none.idle (fault_status (map name_of C.outside.kinds) bytes none.ending none.cause)

    both : (bytes old : List ℕ) → HasBytes C.folder.files scenario bytes → HasBytes C.folder.files recorded old → IsResumeOutcome C.outside wanted bytes (mended old) d.text d.kept → NothingWasRun C (status r) ⊎ IsRightResume C scenario recorded name (status r)
    both bytes old h k (inl none) = inl (no_study bytes none)
    both bytes old h k (inr has) = elim has.outcome [
      | inl none ↦ inl (quiet C name d.text d.kept r d.ended none.ending none.is none.idle (unread_status (mended old) none.ending none.cause))
      | inr rec ↦ inr (record {
        bytes = bytes;
        held = h;
        study = has.study;
        old_bytes = old;
        old_held = k;
        old = rec.saved;
        read = rec.read;
        went = went has.study.scenario has.study.ranks rec.saved rec.outcome;
      })
    ]
      where
        went : (S : Scenario) (ranks : List ℕ) (old : Saved) → IsSavedOutcome C.outside wanted S ranks old d.text d.kept → IsNotOnward C S ranks old (status r) ⊎ IsRightOnward C S ranks old name (status r)
        went S ranks old (inl unrun) = inl (not_onward C name d.text d.kept r d.ended S ranks old (inl unrun))
        went S ranks old (inr (inl rest)) = inl (not_onward C name d.text d.kept r d.ended S ranks old (inr rest))
        went S ranks old (inr (inr gone)) = inr (onward C name d.text d.kept r d.ended S ranks old gone)

    by : (read : List (List ℕ)) → AreHeld C.folder.files (scenario ∷ recorded ∷ []) read → OfTwoBy (IsStudy (map name_of C.outside.kinds)) (λ bytes old outcome. IsResumeOutcome C.outside wanted bytes (mended old) outcome d.kept) read d.text
        → NothingWasRun C (status r) ⊎ IsRightResume C scenario recorded name (status r)
    by [] h outcome = absurd outcome
    by (bytes ∷ []) h outcome = elim (outcome.1 []) [ inl none ↦ inl (no_study bytes none) | inr has ↦ absurd (outcome.0 has.study) ]
    by (bytes ∷ old ∷ []) h outcome = both bytes old h.0 h.1.0 outcome
    by (bytes ∷ old ∷ other ∷ more) h outcome = absurd outcome

-- a run by a clock
module _ (C : Around) (factor : ℕ) (strict : Option ℕ) (S : Scenario) (name : Option (List ℕ)) where
  -- a run with its plan
  paced : (text : Result (List ℕ) Ending) (kept : Option (List ℕ)) (n : ℕ) (p : IsPacedRun C.outside factor strict (is_some name) S text kept) → (n ≡ 0 → p.end ≡ pace_end.Outcome outcome.Done) → (p.end ≡ pace_end.Outcome outcome.Mem → n ≡ 8)
      → (n ≡ 0 → (R : Messages) → MayCome C.outside S p.plan R → C.output.after ≡ appended (report p.plan (run_items p.plan R)) C.output.before)
      → Filed C name n p.plan p.journal → IsRightPacedRun C factor strict S name n
  paced text kept n p over short told filed =
      let O = C.outside in
      let right = paces_right (exchange_in O S) p.plan p.journal (timing (record { origin = p.run.origin; factor = factor }) strict p.moments) O.faults O.new_faults p.end p.run.run in
      let come : Messages = λ i. coming (sim_link O.started S i) (run_messages S O.log i) (got p.journal i) in
      record {
        ranks = p.ranks;
        ranked = own_ranks (map name_of O.kinds) S p.ranks p.runnable;
        plan = p.plan;
        journal = p.journal;
        moments = p.moments;
        end = p.end;
        run = p.run;
        right = right;
        done = over;
        wanting = short;
        possible = λ zero. (
          come,
          record {
            by_kind = (right.done (over zero)).answers come (λ i low. goes_on (sim_link O.started S i) (run_messages S O.log i) (got p.journal i) (p.run.run.journal.links i));
            links = λ i l linked. is_heard (sim_link O.started S i) (run_messages S O.log i) (got p.journal i) l linked;
          },
        );
        text = told;
        recorded = filed;
      }

  paced_as : (text : Result (List ℕ) Ending) (kept : Option (List ℕ)) (r : Result (Unit {0}) Ending) → RunAnswer C.folder C.output name text kept r → IsPacedRun C.outside factor strict (is_some name) S text kept → IsRightPacedRun C factor strict S name (status r)
  paced_as (Ok t) kept r said p =
      let shown = shown_by_run C name (Ok t) kept r said in
      paced (Ok t) kept (status r) p
      (λ zero. (pacing.done_alone (ids_of S) p.plan p.journal p.end t p.said).0)
      (λ mem. shown.wanting (elim p.said [ inl same ↦ same ∙ ap (pace_saying (ids_of S) p.plan p.journal) mem | inr is ↦ is ]))
      (λ zero R may. shown.put t refl zero ∙ ap (λ x. appended x C.output.before) (pacing.texts_sequential paces_right C.outside factor strict (is_some name) S t kept p R may).0)
      (elim p.recorded [ inl is ↦ filed_by C name (Ok t) kept r said p.plan p.journal is | inr none ↦ cc ])
  paced_as (Err e) kept r said p =
      let shown = shown_by_run C name (Err e) kept r said in
      let not = (shown.unput e refl).1 in
      paced (Err e) kept (status r) p (λ zero. absurd (not zero)) (λ mem. shown.wanting (elim p.said [ inl same ↦ same ∙ ap (pace_saying (ids_of S) p.plan p.journal) mem | inr is ↦ is ])) (λ zero R may. absurd (not zero)) (λ zero target named. absurd (not zero))

pace_right : (C : Around) (r : Result (Unit {0}) Ending) (scenario : List ℕ) (factor : ℕ) (strict : Option ℕ) (name : Option (List ℕ)) → WasPaced C scenario factor strict name r → NothingWasRun C (status r) ⊎ IsRightPaced C scenario factor strict name (status r)
pace_right C r scenario factor strict name ran = by ran.outcome
  where
    went : (S : Scenario) → scenario_of ran.bytes ≡ Ok S → IsPacedScenario C.outside factor strict (is_some name) S ran.text ran.kept → NothingWasRun C (status r) ⊎ IsRightPaced C scenario factor strict name (status r)
    went S read (inl unready) = inl (unrunnable C name ran.text ran.kept r ran.ended S unready)
    went S read (inr (inl unpaced)) =
        let t = ending_seen C name ran.text ran.kept r ran.ended (halt_ending (ids_of S) unpaced.unrun.halt) unpaced.unrun.said in
        inr (record { bytes = ran.bytes; held = ran.held; scenario = S; read = read; went = inl (record { unpaced = (ran.text, ran.kept, unpaced); wanting = (shown_by_run C name ran.text ran.kept r ran.ended).wanting; unput = t.0; status = t.1 }) })
    went S read (inr (inr p)) = inr (record { bytes = ran.bytes; held = ran.held; scenario = S; read = read; went = inr (paced_as C factor strict S name ran.text ran.kept r ran.ended p) })

    by : IsPacedOutcome C.outside factor strict (is_some name) ran.bytes ran.text ran.kept → NothingWasRun C (status r) ⊎ IsRightPaced C scenario factor strict name (status r)
    by (inl none) = inl (no_scenario C name ran.text ran.kept r ran.ended ran.bytes none)
    by (inr has) = went has.scenario has.read has.outcome

-- what was done over a fleet
done_right : (C : Around) (r : Result (Unit {0}) Ending) (R : Request) → IsDoneOver C R r → IsRightFor C (status r) R
done_right C r (Run scenario name) d = run_right C r scenario name (was_run C scenario name r d)
done_right C r (Resume scenario recorded name) d = resume_right C r scenario recorded name d
done_right C r (Paced scenario factor strict name) d = pace_right C r scenario factor strict name (was_paced C scenario factor strict name r d)
done_right C r (Demo size) d = studied C Summary false (demo_scenario size) None (status r) d.text None d.outcome.0 (shown_by_run C None d.text d.kept r d.ended)
    (λ unready. unrunnable C None d.text None r (subst (λ (k : Option (List ℕ)). RunAnswer C.folder C.output None d.text k r) d.outcome.1 d.ended) (demo_scenario size) unready) (λ P J is zero name named. cc)
done_right C r (Reads command) d = absurd d.outcome

-- the text of a command on files, at status 0
put_right : (C : Around) (target : Option (List ℕ)) (text : Result (List ℕ) Ending) (r : Result (Unit {0}) Ending) → TextAnswer C target text r → status r ≡ 0 → (t : List ℕ) × (text ≡ Ok t) × IsPut C target t
put_right C target text (Err e) said zero = absurd (not_zero e zero)
put_right C None (Ok t) (Ok done) said zero = (t, refl, said.0)
put_right C (Some name) (Ok t) (Ok done) said zero = (t, refl, said.0)
put_right C None (Err why) (Ok done) said zero = absurd said.0
put_right C (Some name) (Err why) (Ok done) said zero = absurd said.0

made_right : (C : Around) (r : Result (Unit {0}) Ending) → (has : HasMade C r) → IsRightFor C (status r) (Reads has.command)
made_right C r has = λ zero.
    let put = put_right C (target_of has.command) has.text r has.ended zero in
    record {
      read = has.made.read;
      held = has.made.held;
      text = put.0;
      made = subst (IsOutcomeOf C.outside.kinds C.rules has.command has.made.read) put.1 has.made.made;
      put = put.2;
    }

-- where a file isn't read, or memory was wanting to read the words, nothing was run
unread_right : (C : Around) (n : ℕ) → NothingWasRun C n → (n ≡ 0 → ⊥) → (Q : Request) → IsRightFor C n Q
unread_right C n nothing not (Run name saved) = inl nothing
unread_right C n nothing not (Resume name recorded saved) = inl nothing
unread_right C n nothing not (Paced name factor strict saved) = inl nothing
unread_right C n nothing not (Demo size) = inl nothing
unread_right C n nothing not (Reads command) = λ zero. absurd (not zero)

stuck_status : (files : Option Files) (name : List ℕ) (risen : Type 0) (e : Ending) → IsUnreadable files name risen e → (status_of e ≡ 3) ⊎ (((status_of e ≡ 6) × risen) ⊎ (status_of e ≡ 8))
stuck_status files name risen e (inl mem) = inr (inr (ap status_of mem))
stuck_status files name risen e (inr (inl failed)) = inr (inl (ap status_of failed.0, failed.1))
stuck_status files name risen e (inr (inr (inl missing))) = inl (ap status_of missing.0)
stuck_status files name risen e (inr (inr (inr long))) = inl (ap status_of long.1)

misused_right : (C : Around) (e : Ending) (R : Request) → IsMisused C e → IsAsked C.words R → NothingWasRun C (status_of e)
misused_right C e R misused asked = record {
  untouched = misused.untouched;
  status = elim misused.cause [ inl mem ↦ inr (inr (ap status_of mem)) | inr none ↦ absurd (none.1 R asked) ];
}

performed_right : (C : Around) (r : Result (Unit {0}) Ending) → HasPerformed C r → (R : Request) → IsAsked C.words R → IsRightFor C (status r) R
performed_right C r (inl made) R asked = subst (IsRightFor C (status r)) (one_request C.words (Reads made.command) R made.asked asked) (made_right C r made)
performed_right C r (inr ran) R asked = subst (IsRightFor C (status r)) (one_request C.words ran.request R ran.asked asked) (done_right C r ran.request ran.run)

right_for : (C : Around) (r : Result (Unit {0}) Ending) → EndedAs C r → (R : Request) → IsAsked C.words R → IsRightFor C (status r) R
right_for C (Ok done) performed R asked = performed_right C (Ok done) performed R asked
right_for C (Err e) (inl misused) R asked = unread_right C (status_of e) (misused_right C e R misused asked) (not_zero e) R
right_for C (Err e) (inr (inl unread)) R asked =
    unread_right C (status_of e) (record { untouched = unread.untouched; status = stuck_status C.folder.files unread.stuck.name _ e unread.stuck.cause }) (not_zero e) R
right_for C (Err e) (inr (inr performed)) R asked = performed_right C (Err e) performed R asked

pub right_call : (C : Around) (r : Result (Unit {0}) Ending) (n : ℕ) → n ≡ status r → EndedAs C r → IsRightCall C n
right_call C r n is ended R asked = subst (λ (m : ℕ). IsRightFor C m R) (sym is) (right_for C r ended R asked)
