-- What comes of a scenario, and of a scenario file's bytes, over a fleet.
use Rattle.std.specs.Prelude.{◌≡◌, ◌⊎◌, ℕ, Bool, List, [], map, Option, Some, None, IfSome, Result, Ok, Err}
use Rattle.mk_plan.specs.declared.Plan.{Plan}
use Rattle.mk_plan.specs.declared.Entry.{Entry}
use Rattle.mk_plan.specs.Journals.{arrivals}
use Rattle.mk_record.specs.Again.{steps_of}
use Rattle.mk_record.specs.Readable.{IsReadable}
use Rattle.mk_record.specs.Reading.{Said, reading}
use Rattle.mk_outside.specs.Counts.{HasRisen}
use Rattle.mk_outside.specs.declared.fleet.LogEntry.{LogEntry}
use Rattle.mk_outside.specs.Logs.{Adds}
use Rattle.mk_scenario.specs.declared.parts.Scenario.{Scenario}
use Rattle.mk_scenario.specs.Scenarios.{scenario_of}
use Rattle.mk_scenario.specs.Wellformed.{IsWellformed}
use Rattle.mk_local.specs.declared.turn.Turn.{Turn}
use Rattle.mk_local.specs.Kinds.{name_of}
use Rattle.mosaikrun_check.specs.Checks.{IsUnread}
use Rattle.mosaikrun_check.specs.Runnable.{IsRunnable, IsUnrunnable}
use Rattle.mk_run_crew.specs.Attempts.{Attempt, attempt}
use Rattle.mk_run.specs.declared.outcome.Outcome.{Outcome}
use Rattle.mk_run_crew.specs.declared.halt.Halt.{Halt}
use Rattle.mk_run_crew.specs.Halted.{HasHalted}
use Rattle.mk_run.specs.Ran.{HasRun}
use Rattle.mosaikrun_endings.specs.declared.ending.Ending.{Ending}
use Rattle.mosaikrun_endings.specs.declared.ending.Ending.TheVariants as ends
use Rattle.mosaikrun_sayings.specs.Sayings.{ids_of}
use Rattle.mosaikrun_run.specs.declared.sayings.Form.{Form}
use Rattle.mosaikrun_run.specs.declared.sayings.Form.TheVariants.{Report}
use Rattle.mosaikrun_run.specs.Sayings.{halt_ending, record_of, saying_of}
use Rattle.mk_run_laws.specs.Exchanges.{Exchange, exchange}
use Rattle.mk_run_local.specs.Made.{kind_reply_of}

-- what lies around a run: the kinds within the program, how many links the fleet had started, the
-- entries by which its log grew, and its counts of faults before and after
pub record Outside : Type 0 where
  pub kinds : List Turn
  pub started : ℕ
  pub log : List LogEntry
  pub faults : ℕ
  pub new_faults : ℕ

-- that of a call with these kinds over a fleet, by what it tells before and after the call, and
-- these entries
abbrev pub outside : {F : Type 0} → (F → ℕ) → (F → ℕ) → List Turn → F → F → List LogEntry → Outside
outside started faults kinds old new entries = record {
  kinds = kinds;
  started = started old;
  log = entries;
  faults = faults old;
  new_faults = faults new;
}

-- the attempt to run this scenario, with these ranks, that these are of
abbrev pub attempt_in : Outside → Scenario → List ℕ → Attempt
attempt_in O S ranks = attempt O.started S ranks O.kinds O.log

-- what passed between the program, which ran this scenario, and the simulators
abbrev pub exchange_in : Outside → Scenario → Exchange
exchange_in O S = exchange O.started S (kind_reply_of O.kinds S) O.log

-- over some entries by which the log of a fleet grew in a call with these kinds this holds of what
-- lies around it; the fleet tells its log, how many links it started, and its count of faults
abbrev pub HoldsOver : {F : Type 0} → (F → Option (List LogEntry)) → (F → ℕ) → (F → ℕ) → List Turn
    → F → F → (Outside → Type 0) → Type 0
HoldsOver log started faults kinds old new Holds = (entries : List LogEntry)
    × Adds entries (log old) (log new) × Holds (outside started faults kinds old new entries)

-- nothing was added to the fleet's log, its count of faults didn't rise, and there is no record
pub record IsIdle (O : Outside) (record_ : Option (List ℕ)) : Type 0 where
  pub quiet : O.log ≡ []
  pub same_faults : O.new_faults ≡ O.faults
  pub unrecorded : record_ ≡ None

-- this is said, or that memory is wanting
abbrev pub IsSaid : Result (List ℕ) Ending → Result (List ℕ) Ending → Type 0
IsSaid wanted text = (text ≡ wanted) ⊎ (text ≡ Err ends.Mem)

-- nothing was done, and an ending is said that has this cause
pub record IsIdleFor (O : Outside) (Cause : Ending → Type 0) (text : Result (List ℕ) Ending)
    (record_ : Option (List ℕ)) : Type 0 where
  pub ending : Ending
  pub is : text ≡ Err ending
  pub cause : Cause ending
  pub idle : IsIdle O record_

-- the scenario can't be run, and nothing was done
abbrev pub IsUnrunnableScenario : Outside → Scenario → Result (List ℕ) Ending → Option (List ℕ)
    → Type 0
IsUnrunnableScenario O S = IsIdleFor O (IsUnrunnable (map name_of O.kinds) S)

-- the scenario can be run, but wasn't: the handshake ended early, or memory was wanting
pub record IsUnrun (O : Outside) (S : Scenario) (text : Result (List ℕ) Ending)
    (record_ : Option (List ℕ)) : Type 0 where
  pub ranks : List ℕ
  pub runnable : IsRunnable (map name_of O.kinds) S ranks
  pub halt : Halt
  pub halted : HasHalted (attempt_in O S ranks) (HasRisen O.faults O.new_faults) halt
  pub said : IsSaid (Err (halt_ending (ids_of S) halt)) text
  pub unrecorded : record_ ≡ None

-- where a plan and a journal may stand in a record, these bytes, read, say the plan, the journal's
-- messages and its Steps
abbrev pub IsReadAgain : Plan → List Entry → List ℕ → Type 0
IsReadAgain P J bytes = IsReadable P J → reading bytes ≡ Said P (arrivals J) (Some (steps_of J))

-- the scenario was run, by this plan, with this journal and this outcome; what is said is its text
-- in this form, or why there is none; and the record is made where it is wanted, but for want of
-- memory, which is then said; read again, it says this plan and journal
pub record IsPlayed (O : Outside) (form : Form) (wanted : Bool) (S : Scenario)
    (text : Result (List ℕ) Ending) (record_ : Option (List ℕ)) : Type 0 where
  pub ranks : List ℕ
  pub runnable : IsRunnable (map name_of O.kinds) S ranks
  pub plan : Plan
  pub journal : List Entry
  pub outcome : Outcome
  pub run : HasRun (attempt_in O S ranks) plan journal O.faults O.new_faults outcome
  pub said : IsSaid (saying_of form (ids_of S) plan journal outcome) text
  pub recorded : (record_ ≡ record_of wanted plan journal)
      ⊎ ((record_ ≡ None) × (text ≡ Err ends.Mem))
  pub again : IfSome record_ (IsReadAgain plan journal)

-- what comes of a scenario whose text is wanted in this form, a record being wanted or not: the
-- text or why there is none, and the record
abbrev pub IsScenarioOutcome : Outside → Form → Bool → Scenario → Result (List ℕ) Ending
    → Option (List ℕ) → Type 0
IsScenarioOutcome O form wanted S text record_ = IsUnrunnableScenario O S text record_
    ⊎ (IsUnrun O S text record_ ⊎ IsPlayed O form wanted S text record_)

-- the bytes are no scenario, and nothing was done
abbrev pub IsNoScenario : Outside → List ℕ → Result (List ℕ) Ending → Option (List ℕ) → Type 0
IsNoScenario O bytes = IsIdleFor O (IsUnread bytes)

-- the bytes are a scenario, which is well-formed, and this comes of it
pub record HasScenario (O : Outside) (wanted : Bool) (bytes : List ℕ)
    (text : Result (List ℕ) Ending) (record_ : Option (List ℕ)) : Type 0 where
  pub scenario : Scenario
  pub read : scenario_of bytes ≡ Ok scenario
  pub wellformed : IsWellformed scenario
  pub outcome : IsScenarioOutcome O Report wanted scenario text record_

-- what `run` makes of the bytes, a record being wanted or not
abbrev pub IsRunOutcome : Outside → Bool → List ℕ → Result (List ℕ) Ending → Option (List ℕ)
    → Type 0
IsRunOutcome O wanted bytes text record_ = IsNoScenario O bytes text record_
    ⊎ HasScenario O wanted bytes text record_
