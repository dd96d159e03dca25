-- What comes of the bytes of a scenario's file and of a record, by the command `resume` over a fleet.
use Rattle.std.specs.Prelude.{◌≡◌, ◌⊎◌, ℕ, Bool, List, map, Option, None, IfSome, Result, Ok, Err}
use Rattle.mk_plan.specs.declared.Plan.{Plan}
use Rattle.mk_plan.specs.declared.Entry.{Entry}
use Rattle.mk_outside.specs.Counts.{HasRisen}
use Rattle.mk_scenario.specs.declared.parts.Scenario.{Scenario}
use Rattle.mk_scenario.specs.Scenarios.{scenario_of}
use Rattle.mk_scenario.specs.Wellformed.{IsWellformed}
use Rattle.mk_local.specs.Kinds.{name_of}
use Rattle.mk_record_read.specs.declared.saved.Saved.{Saved}
use Rattle.mk_record.specs.Reading.{reading, Said}
use Rattle.mk_record.specs.Seen.{came}
use Rattle.mk_resume_loop.specs.declared.ending.ResumeEnd.{ResumeEnd}
use Rattle.mk_resume.specs.Resumed.{HasFaultySaved, HasRefused, HasResumed, IsRefusedBy}
use Rattle.mosaikrun_check.specs.Checks.{IsUnchecked}
use Rattle.mosaikrun_check.specs.Runnable.{IsRunnable}
use Rattle.mosaikrun_endings.specs.declared.ending.Ending.{Ending}
use Rattle.mosaikrun_endings.specs.declared.ending.Ending.TheVariants as endings
use Rattle.mosaikrun_records.specs.Saved.{IsUnread}
use Rattle.mosaikrun_run.specs.Outcomes.{IsIdleFor, IsReadAgain, IsSaid, IsUnrun, Outside, attempt_in}
use Rattle.mosaikrun_run.specs.Sayings.{record_of}
use Rattle.mosaikrun_sayings.specs.Sayings.{ids_of}
use Rattle.mosaikrun_resume.specs.Sayings.{resume_saying}

-- the handshake was made, with this plan, which the answers make that were heard on the links and
-- those of kinds, and the record wasn't taken: its plan is another; an entry of it isn't the
-- journal's that its messages make; these met a fault of the core, with the journal up to there; or
-- memory was wanting. Nothing was said on the links but the handshake and a stop
pub record IsNotTaken (O : Outside) (S : Scenario) (ranks : List ℕ) (saved : Saved)
    (text : Result (List ℕ) Ending) (kept : Option (List ℕ)) : Type 0 where
  pub plan : Plan
  pub journal : List Entry
  pub end : ResumeEnd
  pub cause : IsRefusedBy plan saved end ⊎ HasFaultySaved plan saved journal end
  pub refused : HasRefused (attempt_in O S ranks) plan (HasRisen O.faults O.new_faults)
  pub said : IsSaid (resume_saying (ids_of S) plan journal end) text
  pub unrecorded : kept ≡ None

-- the record was taken, and the run went on, with this plan and journal, which begins with the
-- record's, to this end; what is said is its report, or why there is none; and the record of the
-- plan and the journal is made where it is wanted, but for want of memory, which is then said; read
-- again, it says this plan and journal
pub record HasGoneOn (O : Outside) (wanted : Bool) (S : Scenario) (ranks : List ℕ) (saved : Saved)
    (text : Result (List ℕ) Ending) (kept : Option (List ℕ)) : Type 0 where
  pub plan : Plan
  pub journal : List Entry
  pub end : ResumeEnd
  pub run : HasResumed (attempt_in O S ranks) saved plan journal O.faults O.new_faults end
  pub said : IsSaid (resume_saying (ids_of S) plan journal end) text
  pub recorded : (kept ≡ record_of wanted plan journal)
      ⊎ ((kept ≡ None) × (text ≡ Err endings.Mem))
  pub again : IfSome kept (IsReadAgain plan journal)

-- what comes of a scenario with its ranks and of what a record says: the handshake wasn't made, the
-- record wasn't taken, or the run has gone on
abbrev pub IsSavedOutcome : Outside → Bool → Scenario → List ℕ → Saved → Result (List ℕ) Ending
    → Option (List ℕ) → Type 0
IsSavedOutcome O wanted S ranks saved text kept = IsUnrun O S text kept
    ⊎ (IsNotTaken O S ranks saved text kept ⊎ HasGoneOn O wanted S ranks saved text kept)

-- the bytes are no record, and nothing was done
abbrev pub IsNoRecord : Outside → List ℕ → Result (List ℕ) Ending → Option (List ℕ) → Type 0
IsNoRecord O bytes = IsIdleFor O (IsUnread bytes)

-- the bytes are a record, and this comes of it
pub record HasRecord (O : Outside) (wanted : Bool) (S : Scenario) (ranks bytes : List ℕ)
    (text : Result (List ℕ) Ending) (kept : Option (List ℕ)) : Type 0 where
  pub saved : Saved
  pub read : reading bytes ≡ Said saved.plan (map came saved.arrivals) saved.asks
  pub outcome : IsSavedOutcome O wanted S ranks saved text kept

-- what comes of a scenario that can be run, with its ranks, and of the bytes of a record
abbrev pub IsStudyOutcome : Outside → Bool → Scenario → List ℕ → List ℕ → Result (List ℕ) Ending
    → Option (List ℕ) → Type 0
IsStudyOutcome O wanted S ranks bytes text kept = IsNoRecord O bytes text kept
    ⊎ HasRecord O wanted S ranks bytes text kept

-- the bytes are no scenario that can be run, and nothing was done
abbrev pub IsNoStudy : Outside → List ℕ → Result (List ℕ) Ending → Option (List ℕ) → Type 0
IsNoStudy O bytes = IsIdleFor O (IsUnchecked (map name_of O.kinds) bytes)

-- the bytes are a scenario, which is well-formed and has these ranks, and can be run
pub record IsStudy (kinds : List (List ℕ)) (bytes : List ℕ) : Type 0 where
  pub scenario : Scenario
  pub ranks : List ℕ
  pub read : scenario_of bytes ≡ Ok scenario
  pub wellformed : IsWellformed scenario
  pub runnable : IsRunnable kinds scenario ranks

-- and this comes of it and of the bytes of a record
pub record HasStudy (O : Outside) (wanted : Bool) (bytes recorded : List ℕ)
    (text : Result (List ℕ) Ending) (kept : Option (List ℕ)) : Type 0 where
  pub study : IsStudy (map name_of O.kinds) bytes
  pub outcome : IsStudyOutcome O wanted study.scenario study.ranks recorded text kept

-- what `resume` makes of the bytes of a scenario's file and of a record, a new record being wanted or
-- not. Where the first are refused it is the same whatever the second are
abbrev pub IsResumeOutcome : Outside → Bool → List ℕ → List ℕ → Result (List ℕ) Ending
    → Option (List ℕ) → Type 0
IsResumeOutcome O wanted bytes recorded text kept = IsNoStudy O bytes text kept
    ⊎ HasStudy O wanted bytes recorded text kept
