-- What a call has done that goes on with a run: that it is right, and what becomes of the file that it
-- saves the new record in.
use Rattle.std.specs.Prelude.{◌≡◌, ◌⊎◌, ℕ, ◌<◌, ◌≤◌, true, List, length, map, Option, Some, None, option_map, IfSome, Result, Err}
use Rattle.mk_base.specs.declared.LinkNo.{LinkNo}
use Rattle.mk_base.specs.Lists.{BeginsWith}
use Rattle.mk_plan.specs.declared.Plan.{Plan}
use Rattle.mk_plan.specs.declared.Entry.{Entry}
use Rattle.mk_plan.specs.Agreement.{Continues}
use Rattle.mk_plan.specs.Journals.{got}
use Rattle.mk_plan.specs.Plans.{sim_count}
use Rattle.mk_plan.specs.Report.{report}
use Rattle.mk_plan.specs.Sequential.{Messages, run_items}
use Rattle.mk_outside.specs.Counts.{HasRisen}
use Rattle.mk_outside.specs.Folders.{file_limit, with_file}
use Rattle.mk_outside.specs.Sinks.{appended}
use Rattle.mk_scenario.specs.declared.parts.Scenario.{Scenario}
use Rattle.mk_local.specs.Kinds.{name_of}
use Rattle.mk_record.specs.Reading.{reading, Said}
use Rattle.mk_record.specs.Seen.{came}
use Rattle.mk_record.specs.Texts.{record_text}
use Rattle.mk_record_read.specs.declared.saved.Saved.{Saved}
use Rattle.mk_record_mend.specs.Mended.{mended}
use Rattle.mk_run_laws.specs.Handshake.{sim_link}
use Rattle.mk_run_laws.specs.Rests.{run_messages}
use Rattle.mk_run.specs.declared.outcome.Outcome.TheVariants as outcome
use Rattle.mk_resume_loop.specs.declared.ending.ResumeEnd.{ResumeEnd}
use Rattle.mk_resume_loop.specs.declared.ending.ResumeEnd.TheVariants as resume_end
use Rattle.mk_resume.specs.Resumed.{HasResumed}
use Rattle.mosaikrun_words.specs.declared.request.Request.TheVariants.{Resume}
use Rattle.mosaikrun_endings.specs.declared.ending.Ending.{Ending}
use Rattle.mosaikrun_endings.specs.declared.ending.Ending.TheVariants as endings
use Rattle.mosaikrun_records.specs.Saved.{IsRecord}
use Rattle.mosaikrun_run.specs.Outcomes.{IsUnrun, Outside, attempt_in}
use Rattle.mosaikrun_resume.specs.Outcomes.{HasGoneOn, IsNotTaken, IsStudy}
use Rattle.mosaikrun_program.specs.Around.{Around}
use Rattle.mosaikrun_program.specs.Commands.{IsAsked, HasBytes}
use Rattle.mosaikrun_program.specs.Running.{RunAnswer}

-- the run has gone on by this plan, with this journal, which begins with the record's; where memory
-- was wanting the status is 8. At status 0 all is done, and over whatever goes on with the messages
-- of the journal, the output has grown by exactly the report of what sequential execution sends;
-- each link brought, behind its handshake, all messages that the journal has of its simulator; and
-- the record of the plan and the journal was saved under the name that was given for it
pub record IsRightOnward (C : Around) (S : Scenario) (ranks : List ℕ) (old : Saved)
    (saved : Option (List ℕ)) (n : ℕ) : Type 0 where
  pub plan : Plan
  pub journal : List Entry
  pub end : ResumeEnd
  pub run : HasResumed (attempt_in C.outside S ranks) old plan journal
      C.outside.faults C.outside.new_faults end
  pub done : n ≡ 0 → end ≡ resume_end.Outcome outcome.Done
  pub wanting : end ≡ resume_end.Outcome outcome.Mem → n ≡ 8
  pub text : n ≡ 0 → (R : Messages) → Continues plan journal R
      → C.output.after ≡ appended (report plan (run_items plan R)) C.output.before
  pub heard : n ≡ 0 → (i : ℕ) (l : LinkNo) → sim_link C.outside.started S i ≡ Some l
      → i < sim_count plan → BeginsWith (run_messages S C.outside.log i l) (got journal i)
  pub recorded : n ≡ 0 → (name : List ℕ) → saved ≡ Some name → C.folder.files_after
      ≡ option_map (with_file name (record_text plan journal)) C.folder.files

-- the handshake ended early, or the record wasn't taken
abbrev pub IsUntaken : Outside → Scenario → List ℕ → Saved → Type 0
IsUntaken O S ranks old = (text : Result (List ℕ) Ending) × (kept : Option (List ℕ))
    × (IsUnrun O S text kept ⊎ IsNotTaken O S ranks old text kept)

-- so the run didn't go on: nothing was put out, and the status isn't 0, and 8 where memory was wanting
pub record IsNotOnward (C : Around) (S : Scenario) (ranks : List ℕ) (old : Saved)
    (n : ℕ) : Type 0 where
  pub untaken : IsUntaken C.outside S ranks old
  pub wanting : untaken.0 ≡ Err endings.Mem → n ≡ 8
  pub unput : C.output.after ≡ C.output.before
  pub status : n ≡ 0 → ⊥

-- the files of these names, where the folder tells, have bytes that are a scenario, which can be run,
-- and, once mended, a record; from which the run went on, or it didn't
pub record IsRightResume (C : Around) (name recorded : List ℕ) (saved : Option (List ℕ))
    (n : ℕ) : Type 0 where
  pub bytes : List ℕ
  pub held : HasBytes C.folder.files name bytes
  pub study : IsStudy (map name_of C.outside.kinds) bytes
  pub old_bytes : List ℕ
  pub old_held : HasBytes C.folder.files recorded old_bytes
  pub old : Saved
  pub read : reading (mended old_bytes) ≡ Said old.plan (map came old.arrivals) old.asks
  pub went : IsNotOnward C study.scenario study.ranks old n
      ⊎ IsRightOnward C study.scenario study.ranks old saved n

-- the run has gone on, and the file of this name holds the record of its plan and its journal, all
-- other files being as before; what was said of this run is what the answer tells
pub record HoldsNewRecord (S : Around) (answer : Result (Unit {0}) Ending)
    (bytes recorded name : List ℕ) : Type 0 where
  pub study : IsStudy (map name_of S.outside.kinds) bytes
  pub old : Saved
  pub read : reading (mended recorded) ≡ Said old.plan (map came old.arrivals) old.asks
  pub said : Result (List ℕ) Ending
  pub text : List ℕ
  pub gone : HasGoneOn S.outside true study.scenario study.ranks old said (Some text)
  pub is : text ≡ record_text gone.plan gone.journal
  pub answered : RunAnswer S.folder S.output (Some name) said (Some text) answer
  pub filed : S.folder.files_after ≡ option_map (with_file name text) S.folder.files

-- the bytes are a scenario, which can be run, and, once mended, a record, but the handshake ended
-- early, or the record wasn't taken, so that there is no new one; what was said of this is what the
-- answer tells
pub record IsRefused (S : Around) (answer : Result (Unit {0}) Ending)
    (bytes recorded name : List ℕ) : Type 0 where
  pub study : IsStudy (map name_of S.outside.kinds) bytes
  pub old : Saved
  pub read : reading (mended recorded) ≡ Said old.plan (map came old.arrivals) old.asks
  pub said : Result (List ℕ) Ending
  pub untaken : IsUnrun S.outside study.scenario said None
      ⊎ IsNotTaken S.outside study.scenario study.ranks old said None
  pub answered : RunAnswer S.folder S.output (Some name) said None answer

-- or all files are as before, since the run didn't go on: the bytes are no scenario that can be run,
-- or no record once mended, or it was refused
pub record KeepsOldFiles (S : Around) (answer : Result (Unit {0}) Ending)
    (bytes recorded name : List ℕ) : Type 0 where
  pub same : S.folder.files_after ≡ S.folder.files
  pub cause : (IsStudy (map name_of S.outside.kinds) bytes → ⊥)
      ⊎ ((IsRecord (mended recorded) → ⊥) ⊎ IsRefused S answer bytes recorded name)

-- so it is where the words ask to go on with the run of a scenario from a record, whose files have these
-- bytes, and give this name for the new record, the folder tells, its count of faults didn't rise,
-- and the status isn't 8: the new record is saved exactly where the run went on
abbrev pub IsNewRecordKept : Around → Result (Unit {0}) Ending → ℕ → Type 0
IsNewRecordKept S answer n = IfSome S.folder.files
    (λ held. (scenario record_ name bytes recorded : List ℕ)
    → IsAsked S.words (Resume scenario record_ (Some name)) → held scenario ≡ Some bytes
    → length bytes ≤ file_limit → held record_ ≡ Some recorded → length recorded ≤ file_limit
    → (HasRisen S.folder.faults S.folder.new_faults → ⊥) → (n ≡ 8 → ⊥)
    → KeepsOldFiles S answer bytes recorded name ⊎ HoldsNewRecord S answer bytes recorded name)
