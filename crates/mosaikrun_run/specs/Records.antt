-- When the record of a run has to be there, and what it is.
use Rattle.std.specs.Prelude.{◌≡◌, ℕ, ℤ, ⊤, List, [], ◌∷◌, ◌++◌, map, take, Option, Some, Result, Ok, Err}
use Rattle.mk_base.specs.declared.LinkNo.{LinkNo}
use Rattle.mk_base.specs.declared.tier.Tier.{Tier}
use Rattle.mk_base.specs.Lists.{BeginsWith}
use Rattle.mk_plan.specs.declared.Plan.{Plan}
use Rattle.mk_plan.specs.declared.Entry.{Entry}
use Rattle.mk_plan.specs.declared.Input.{Input}
use Rattle.mk_plan.specs.declared.Item.TheVariants.{Step}
use Rattle.mk_frame.specs.Frames.{frames_of}
use Rattle.mk_message.specs.Written.{item_text}
use Rattle.mk_outside.specs.declared.fleet.LogEntry.{LogEntry}
use Rattle.mk_outside.specs.Logs.{said_on}
use Rattle.mk_scenario.specs.declared.parts.Scenario.{Scenario}
use Rattle.mk_run_laws.specs.Handshake.{setup_payloads, sim_link}
use Rattle.mk_record.specs.Texts.{record_text}
use Rattle.mk_run.specs.declared.outcome.Outcome.{Outcome}
use Rattle.mk_run.specs.Ran.{HasRun}
use Rattle.mosaikrun_check.specs.Runnable.{IsRunnable}
use Rattle.mk_local.specs.Kinds.{name_of}
use Rattle.mosaikrun_endings.specs.declared.ending.Ending.{Ending}
use Rattle.mosaikrun_endings.specs.declared.ending.Ending.TheVariants as ends
use Rattle.mosaikrun_sayings.specs.Sayings.{ids_of}
use Rattle.mosaikrun_run.specs.declared.sayings.Form.{Form}
use Rattle.mosaikrun_run.specs.Outcomes.{IsReadAgain, IsSaid, Outside, attempt_in}
use Rattle.mosaikrun_run.specs.Sayings.{saying_of}

-- the whole frame of a Step was said on a link of simulator i: what was said there begins with the
-- frames of some first requests of its handshake, and of a Step
pub record HasSaidStep (S : Scenario) (log : List LogEntry) (i : ℕ) (l : LinkNo) : Type 0 where
  pub requests : ℕ
  pub id : ℕ
  pub at : Tier
  pub inputs : List Input
  pub advance : ℤ
  pub said : BeginsWith (said_on l log)
      (frames_of (take requests (setup_payloads S i) ++ item_text id (Step at inputs advance) ∷ []))

-- it was said on the link of some simulator, so many links having been started before
pub record IsStepSaid (started : ℕ) (S : Scenario) (log : List LogEntry) : Type 0 where
  pub sim : ℕ
  pub link : LinkNo
  pub linked : sim_link started S sim ≡ Some link
  pub step : HasSaidStep S log sim link

-- the ending is a fault that a run met: a wrong message, a failure, the loop limit, or the limit of
-- entries
abbrev pub IsRunFault : Ending → Type 0
IsRunFault ends.Usage = ⊥
IsRunFault (ends.Missing name) = ⊥
IsRunFault (ends.TooLong name count) = ⊥
IsRunFault (ends.Scenario fault) = ⊥
IsRunFault (ends.Watches fault) = ⊥
IsRunFault (ends.Cycle sims) = ⊥
IsRunFault (ends.Launch sim fault) = ⊥
IsRunFault (ends.Setup setup) = ⊥
IsRunFault (ends.Record line fault) = ⊥
IsRunFault (ends.Wrong sim place cause) = ⊤
IsRunFault (ends.Failed sim text) = ⊤
IsRunFault (ends.LoopLimit sim time) = ⊤
IsRunFault (ends.Link sim fault) = ⊥
IsRunFault (ends.Short outstanding) = ⊥
IsRunFault (ends.Differs entry) = ⊥
IsRunFault (ends.OtherPlan part) = ⊥
IsRunFault (ends.OtherMessage sim place) = ⊥
IsRunFault (ends.Late sim time late allowed) = ⊥
IsRunFault ends.Fleet = ⊥
IsRunFault ends.Folder = ⊥
IsRunFault ends.Output = ⊥
IsRunFault (ends.Entries entries) = ⊤
IsRunFault (ends.LongItem sim length) = ⊥
IsRunFault ends.Mem = ⊥

-- all is done, or the run met such a fault
abbrev pub EndsOfItself : {V : Type 0} → Result V Ending → Type 0
EndsOfItself (Ok value) = ⊤
EndsOfItself (Err e) = IsRunFault e

-- there is a record, which is that of the plan and the journal of a run of the scenario, with its
-- ranks, and says these where it is read again; and what was said of this same run, of its outcome,
-- is its text in this form, or why there is none
pub record HasRecord (O : Outside) (form : Form) (S : Scenario) (text : Result (List ℕ) Ending)
    (kept : Option (List ℕ)) : Type 0 where
  pub ranks : List ℕ
  pub runnable : IsRunnable (map name_of O.kinds) S ranks
  pub plan : Plan
  pub journal : List Entry
  pub outcome : Outcome
  pub run : HasRun (attempt_in O S ranks) plan journal O.faults O.new_faults outcome
  pub said : IsSaid (saying_of form (ids_of S) plan journal outcome) text
  pub is : kept ≡ Some (record_text plan journal)
  pub again : IsReadAgain plan journal (record_text plan journal)
