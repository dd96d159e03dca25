-- What `replay` says of the record of a run.
use Rattle.std.specs.Prelude.{◌≡◌, ◌⊎◌, ℕ, ⊤, List, Option, Some, None, IsSome, Result, Err}
use Rattle.mk_plan.specs.declared.Plan.{Plan}
use Rattle.mk_plan.specs.declared.Entry.{Entry}
use Rattle.mk_plan.specs.Journals.{arrivals}
use Rattle.mk_scenario.specs.declared.parts.Scenario.{Scenario}
use Rattle.mk_sched.specs.declared.faults.CoreFault.{CoreFault}
use Rattle.mk_sched.specs.Answers.{fault_in}
use Rattle.mk_run_laws.specs.Exchanges.{Exchange}
use Rattle.mk_run.specs.declared.outcome.Outcome.{Outcome}
use Rattle.mk_run.specs.declared.outcome.Outcome.TheVariants as outcome
use Rattle.mk_run.specs.Ends.{IsRun}
use Rattle.mk_record_read.specs.Reading.{Said, reading}
use Rattle.mk_record_read.specs.Texts.{record_text}
use Rattle.mk_record_laws.specs.Again.{steps_of}
use Rattle.mk_record_replay.specs.declared.replaying.ReplayEnd.{ReplayEnd}
use Rattle.mk_record_replay.specs.Orders.{IsReplayBy}
use Rattle.mosaikrun_endings.specs.declared.ending.Ending.{Ending}
use Rattle.mosaikrun_endings.specs.declared.ending.Ending.TheVariants as ends
use Rattle.mosaikrun_records.specs.Reports.{IsOutcome}
use Rattle.mosaikrun_sayings.specs.Sayings.{ids_of}
use Rattle.mosaikrun_run.specs.declared.sayings.Form.{Form}
use Rattle.mosaikrun_run.specs.declared.sayings.Form.TheVariants.{Report}
use Rattle.mosaikrun_run.specs.Outcomes.{Outside}
use Rattle.mosaikrun_run.specs.Records.{HasRecord, EndsOfItself}
use Rattle.mosaikrun_run.specs.Sayings.{saying_of}
use Rattle.mosaikrun_again.specs.Again.{IsRunAgain}
use Rattle.mosaikrun_again.specs.Readable.{IsShallow}

-- the run was done, or ended by a wrong message, a failure or the loop limit
abbrev pub IsSaidAgain : Outcome → Type 0
IsSaidAgain outcome.Done = ⊤
IsSaidAgain (outcome.Setup f) = ⊥
IsSaidAgain (outcome.Core f) = IsSome (fault_in f)
IsSaidAgain outcome.Fleet = ⊥
IsSaidAgain (outcome.Gone i) = ⊥
IsSaidAgain (outcome.Garbled i n) = ⊥
IsSaidAgain (outcome.LongFrame i n) = ⊥
IsSaidAgain (outcome.LongItem i n) = ⊥
IsSaidAgain outcome.Mem = ⊥

-- the record says this plan, and the journal's messages and Steps
abbrev pub IsReadAs : Plan → List Entry → Type 0
IsReadAs P J = reading (record_text P J) ≡ Said P (arrivals J) (Some (steps_of J))

-- the line of the limit of entries is said again; or that messages are missing, where one had come
-- for which there was no room
abbrev pub IsLimitAgain : Result (List ℕ) Ending → Result (List ℕ) Ending → Type 0
IsLimitAgain line o = (o ≡ line) ⊎ ((n : ℕ) × (o ≡ Err (ends.Short n)))

-- of each run whose record is read as its plan and journal, memory not wanting: where it ended so,
-- what `replay` makes of the record is what was said of the run, its report or the same ending; and
-- where it ended by the limit of entries, it says that again
pub record ReplaysSayTheSame : Type 0 where
  pub same : (X : Exchange) (P : Plan) (J : List Entry) (faults new_faults : ℕ) (end : Outcome)
      → IsRun X P J faults new_faults end
      → IsReadAs P J → IsSaidAgain end → (ids : List (List ℕ)) (o : Result (List ℕ) Ending)
      → IsOutcome (record_text P J) None o → (o ≡ Err ends.Mem → ⊥)
      → o ≡ saying_of Report ids P J end
  pub limit : (X : Exchange) (P : Plan) (J : List Entry) (faults new_faults : ℕ) (f : CoreFault)
      → IsRun X P J faults new_faults (outcome.Core f)
      → IsReadAs P J → fault_in f ≡ None → (ids : List (List ℕ)) (o : Result (List ℕ) Ending)
      → IsOutcome (record_text P J) None o → (o ≡ Err ends.Mem → ⊥)
      → IsLimitAgain (saying_of Report ids P J (outcome.Core f)) o

-- the record of a run is read as its plan and journal; the replay of that has to do with the run
-- what `IsRunAgain` says, and `replay` says the same
pub record IsRecordOfRun (ids : List (List ℕ)) (P : Plan) (J : List Entry) (end : Outcome)
    : Type 0 where
  pub read : IsReadAs P J
  pub replayed : (K : List Entry) (replay_end : ReplayEnd)
      → IsReplayBy P (arrivals J) (Some (steps_of J)) None K replay_end
      → IsRunAgain P J end K replay_end
  pub said : IsSaidAgain end → (o : Result (List ℕ) Ending) → IsOutcome (record_text P J) None o
      → (o ≡ Err ends.Mem → ⊥) → o ≡ saying_of Report ids P J end
  pub limited : (f : CoreFault) → end ≡ outcome.Core f → fault_in f ≡ None
      → (o : Result (List ℕ) Ending) → IsOutcome (record_text P J) None o
      → (o ≡ Err ends.Mem → ⊥) → IsLimitAgain (saying_of Report ids P J end) o

-- the same is told; or the limit of entries was told, and now that messages are missing, where one
-- had come for which there was no room
abbrev pub IsToldAgain : Result (List ℕ) Ending → Result (List ℕ) Ending → Type 0
IsToldAgain text o = (o ≡ text)
    ⊎ ((n m : ℕ) × (text ≡ Err (ends.Entries n)) × (o ≡ Err (ends.Short m)))

-- so it is of each record that comes of a run, whose messages on links nest no deeper than 126; and
-- the report of `run`, or the fault that it met, is told again by `replay` over its record's bytes
pub record RecordsSayTheSame : Type 0 where
  pub saved : (O : Outside) (form : Form) (S : Scenario) (text : Result (List ℕ) Ending)
      (kept : Option (List ℕ)) → (h : HasRecord O form S text kept) → IsShallow S h.journal
      → IsRecordOfRun (ids_of S) h.plan h.journal h.outcome
  pub one_text : (O : Outside) (S : Scenario) (text : Result (List ℕ) Ending) (bytes : List ℕ)
      → (h : HasRecord O Report S text (Some bytes)) → IsShallow S h.journal → EndsOfItself text
      → (o : Result (List ℕ) Ending) → IsOutcome bytes None o → (o ≡ Err ends.Mem → ⊥)
      → IsToldAgain text o
