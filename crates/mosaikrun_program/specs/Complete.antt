-- When a run, one that goes on from a record, or one by a clock comes to its end, and when its scenario
-- or its record is refused.
use Rattle.std.specs.Prelude.{◌≡◌, ℕ, ◌≤◌, ◌⊎◌, length, map, List, Option, Some, None, IfSome, IsSome, Ok}
use Rattle.mk_plan.specs.declared.Plan.{Plan}
use Rattle.mk_plan.specs.declared.Entry.{Entry}
use Rattle.mk_outside.specs.Counts.{HasRisen}
use Rattle.mk_outside.specs.Folders.{file_limit}
use Rattle.mk_scenario.specs.declared.parts.Scenario.{Scenario}
use Rattle.mk_scenario.specs.Scenarios.{scenario_of}
use Rattle.mk_launch.specs.Ready.{IsPrepared}
use Rattle.mk_local.specs.Kinds.{name_of}
use Rattle.mk_run_crew.specs.Completing.{IsFaultlessHandshake}
use Rattle.mk_run.specs.declared.outcome.Outcome.{Outcome}
use Rattle.mk_run.specs.Ends.{IsFaultless}
use Rattle.mk_run.specs.Ran.{HasRun}
use Rattle.mk_plan_same.specs.Parts.{IsFirstOther}
use Rattle.mk_sched.specs.declared.faults.CoreFault.{CoreFault}
use Rattle.mk_record.specs.Reading.{reading, Said}
use Rattle.mk_record.specs.Seen.{came}
use Rattle.mk_record_read.specs.declared.saved.Saved.{Saved}
use Rattle.mk_record_mend.specs.Mended.{mended}
use Rattle.mk_record_restored.specs.Restored.{IsFaulted, IsOtherIn}
use Rattle.mk_resume_loop.specs.declared.ending.ResumeEnd.{ResumeEnd}
use Rattle.mk_pace_laws.specs.declared.end.Moment.{Moment}
use Rattle.mk_pace_laws.specs.declared.end.PaceEnd.{PaceEnd}
use Rattle.mk_pace_laws.specs.Laws.{IsFaultlessPace}
use Rattle.mk_pace_laws.specs.Paced.{HasPaced}
use Rattle.mk_resume.specs.Laws as onward
use Rattle.mk_resume.specs.Resumed.{HasRefused, HasResumed}
use Rattle.mosaikrun_words.specs.declared.request.Request.TheVariants.{Run, Resume, Paced}
use Rattle.mosaikrun_endings.specs.declared.ending.Ending.{Ending}
use Rattle.mosaikrun_endings.specs.declared.ending.Ending.TheVariants as ends
use Rattle.mosaikrun_check.specs.Checks.{IsUnchecked}
use Rattle.mosaikrun_check.specs.Runnable.{AreRanks}
use Rattle.mosaikrun_records.specs.Saved.{IsUnread}
use Rattle.mosaikrun_run.specs.Outcomes.{Outside, attempt_in, exchange_in}
use Rattle.mosaikrun_program.specs.Around.{Around}
use Rattle.mosaikrun_program.specs.Commands.{IsAsked}
use Rattle.mosaikrun_program.specs.Program.{IsStatusOr}

-- nothing went wrong: the bytes are a scenario that has ranks, and each simulator of which can be
-- begun; its handshake shows no fault; and neither does a run of it: no message is wrong in its
-- place, no limit is met, no link ends, no frame is garbled or too long, no item is too long for one,
-- no count rises
pub record IsFaultlessStudy (O : Outside) (bytes : List ℕ) : Type 0 where
  pub scenario : Scenario
  pub ranks : List ℕ
  pub read : scenario_of bytes ≡ Ok scenario
  pub ranked : AreRanks scenario ranks
  pub prepared : IsPrepared scenario (map name_of O.kinds)
  pub handshake : (any : List ℕ) → AreRanks scenario any
      → IsFaultlessHandshake (attempt_in O scenario any) (HasRisen O.faults O.new_faults)
  pub run : (any : List ℕ) (P : Plan) (J : List Entry) (end : Outcome) → AreRanks scenario any
      → HasRun (attempt_in O scenario any) P J O.faults O.new_faults end
      → IsFaultless (exchange_in O scenario) P J O.faults O.new_faults

-- a run of a file's bytes, where nothing goes wrong, comes to its end: its status is 0, or that of a
-- folder or an output that failed, or of want of memory. Where the bytes are refused, by a test of
-- the scenario's, by a cycle, or since a simulator can't be begun, it is 3, or one of these
abbrev pub EndsRun : Around → ℕ → Type 0
EndsRun C n = IfSome C.folder.files (λ held. (scenario : List ℕ) (saved : Option (List ℕ))
    (bytes : List ℕ) → IsAsked C.words (Run scenario saved) → held scenario ≡ Some bytes
    → length bytes ≤ file_limit
    → (IsFaultlessStudy C.outside bytes → IsStatusOr 0 n)
    × ((e : Ending) → IsUnchecked (map name_of C.outside.kinds) bytes e → (e ≡ ends.Mem → ⊥)
    → IsStatusOr 3 n))

-- the plan is the record's, but for the limit of entries; no entry of the record is another than its
-- messages make; and these meet no fault
pub record IsRightRecord (P : Plan) (old : Saved) : Type 0 where
  pub same_plan : IsFirstOther P old.plan None
  pub same_entries : (n : ℕ) → IsOtherIn P (map came old.arrivals) old.asks n → ⊥
  pub no_fault : (J : List Entry) (f : CoreFault) → IsFaulted P (map came old.arrivals) J f → ⊥

-- nothing went wrong that a run can show which goes on from a record: the bytes are such a scenario,
-- whose handshake shows no fault, and, once mended, a record, which, where nothing followed the
-- handshake, is right by the plan that its answers make, those of simulators with a link being the
-- first messages that were heard there; and a resumed run shows no fault: each simulator repeats its
-- saved messages, and then no message is wrong in its place, no limit is met, no link ends, no frame
-- is garbled or too long, no item is too long for one, no count rises
pub record IsFaultlessResume (O : Outside) (bytes recorded : List ℕ) : Type 0 where
  pub scenario : Scenario
  pub ranks : List ℕ
  pub read : scenario_of bytes ≡ Ok scenario
  pub ranked : AreRanks scenario ranks
  pub prepared : IsPrepared scenario (map name_of O.kinds)
  pub handshake : (any : List ℕ) → AreRanks scenario any
      → IsFaultlessHandshake (attempt_in O scenario any) (HasRisen O.faults O.new_faults)
  pub old : Saved
  pub old_read : reading (mended recorded) ≡ Said old.plan (map came old.arrivals) old.asks
  pub right : (any : List ℕ) (P : Plan) → AreRanks scenario any
      → HasRefused (attempt_in O scenario any) P (HasRisen O.faults O.new_faults)
      → IsRightRecord P old
  pub run : (any : List ℕ) (P : Plan) (J : List Entry) (end : ResumeEnd) → AreRanks scenario any
      → (h : HasResumed (attempt_in O scenario any) old P J O.faults O.new_faults end)
      → onward.IsFaultless (exchange_in O scenario) P h.run.first J h.run.heard O.faults
      O.new_faults

-- a run that goes on from a record's bytes, where nothing goes wrong, comes to its end: its status is
-- 0, or that of a folder or an output that failed, or of want of memory. Where the bytes of the
-- scenario are refused, as by a run, whatever the record is, or those of the record, once mended, are
-- no record, it is 3, or one of these
abbrev pub EndsResume : Around → ℕ → Type 0
EndsResume C n = IfSome C.folder.files (λ held. (scenario recorded : List ℕ)
    (saved : Option (List ℕ)) (bytes : List ℕ) → IsAsked C.words (Resume scenario recorded saved)
    → held scenario ≡ Some bytes → length bytes ≤ file_limit
    → ((e : Ending) → IsUnchecked (map name_of C.outside.kinds) bytes e → (e ≡ ends.Mem → ⊥)
    → IsStatusOr 3 n)
    × ((old : List ℕ) → held recorded ≡ Some old → length old ≤ file_limit
    → (IsFaultlessResume C.outside bytes old → IsStatusOr 0 n)
    × ((e : Ending) → IsUnread (mended old) e → (e ≡ ends.Mem → ⊥) → IsStatusOr 3 n)))

-- nothing went wrong, but that a Step may be too late: the bytes are such a scenario, whose handshake
-- shows no fault, and neither does a paced run of it: no message is wrong in its place, no limit is
-- met, no link ends, no frame is garbled or too long, no item is too long for one, no count rises
pub record IsFaultlessPacedStudy (O : Outside) (factor : ℕ) (strict : Option ℕ)
    (bytes : List ℕ) : Type 0 where
  pub scenario : Scenario
  pub ranks : List ℕ
  pub read : scenario_of bytes ≡ Ok scenario
  pub ranked : AreRanks scenario ranks
  pub prepared : IsPrepared scenario (map name_of O.kinds)
  pub handshake : (any : List ℕ) → AreRanks scenario any
      → IsFaultlessHandshake (attempt_in O scenario any) (HasRisen O.faults O.new_faults)
  pub run : (any : List ℕ) (P : Plan) (J : List Entry) (moments : List Moment) (end : PaceEnd)
      → AreRanks scenario any
      → HasPaced (attempt_in O scenario any) factor strict P J moments O.faults O.new_faults end
      → IsFaultlessPace (exchange_in O scenario) P J O.faults O.new_faults

-- the status of a paced run in which nothing else goes wrong: 0, or that of a folder or an output that
-- failed, or of want of memory; or, where a bound was given, that of a Step that was too late
abbrev pub IsPacedStatus : Option ℕ → ℕ → Type 0
IsPacedStatus strict n = IsStatusOr 0 n ⊎ (IsSome strict × (n ≡ 5))

-- a paced run of a file's bytes, where nothing goes wrong, comes to its end, or, where a bound was
-- given, to a Step that is too late: its status is 0, or that of a folder or an output that failed, or
-- of want of memory, or 5 with a bound alone. Where the bytes are refused, as by a run, it is 3, or that
-- of such a failure or want
abbrev pub EndsPaced : Around → ℕ → Type 0
EndsPaced C n = IfSome C.folder.files (λ held. (scenario : List ℕ) (factor : ℕ) (strict : Option ℕ)
    (saved : Option (List ℕ)) (bytes : List ℕ)
    → IsAsked C.words (Paced scenario factor strict saved) → held scenario ≡ Some bytes
    → length bytes ≤ file_limit
    → (IsFaultlessPacedStudy C.outside factor strict bytes → IsPacedStatus strict n)
    × ((e : Ending) → IsUnchecked (map name_of C.outside.kinds) bytes e → (e ≡ ends.Mem → ⊥)
    → IsStatusOr 3 n))
