-- For proofs alone. What stands while messages are given to a core.
use Rattle.std.specs.Prelude.{◌≡◌, ℕ, ◌⊎◌, List, [], ◌∷◌, ◌++◌, length, filter, Option, Some, None, is_some}
use Rattle.std.specs.List.{range_with_len}
use Rattle.mk_plan.specs.declared.Plan.{Plan}
use Rattle.mk_plan.specs.declared.Entry.{Entry}
use Rattle.mk_plan.specs.Journals as journals
use Rattle.mk_plan.specs.Journals.{view, arrivals}
use Rattle.mk_plan.specs.Ready.{IsDone}
use Rattle.mk_plan.specs.Agreement.{IsFinished}
use Rattle.mk_sched.specs.declared.faults.CoreFault.{CoreFault}
use Rattle.mk_sched.specs.declared.faults.CoreFault.TheVariants.{TooLong}
use Rattle.mk_sched.specs.Cores.{CoreState, Stands}
use Rattle.mk_sched.specs.Answers.{IsLastFaulty, SomeReady, SomeOpen, open_id}
use Rattle.mk_sched.specs.inner.Patient.{IsPatient}
use Rattle.mk_record_replay.specs.declared.asking.Standstill.{Standstill}
use Rattle.mk_record_replay.specs.declared.asking.Standstill.TheVariants.{Waiting, Over, Full}
use Rattle.mk_record_replay.specs.Replays.{IsReplay, IsFull}

-- the messages A were given, and there is no fault
pub record IsGiven (P : Plan) (A : List journals.Arrival) (J : List Entry) : Type 0 where
  pub given : arrivals J ≡ A
  pub no_fault : (view P J).fault ≡ None
  pub patient : IsPatient P J

-- the same, and nothing is owed
pub record IsOnWay (P : Plan) (A : List journals.Arrival) (J : List Entry) : Type 0 where
  pub given : arrivals J ≡ A
  pub no_fault : (view P J).fault ≡ None
  pub patient : IsPatient P J
  pub paid : (view P J).owed ≡ None

-- the core goes on with the same plan and without a message
pub record GoesOn (old new : CoreState) : Type 0 where
  pub plan : new.plan ≡ old.plan
  pub more : List Entry
  pub longer : new.entries ≡ old.entries ++ more
  pub sent_only : arrivals more ≡ []
  pub on_way : (A : List journals.Arrival) → IsOnWay old.plan A old.entries
      → IsOnWay old.plan A new.entries

-- nobody is ready
abbrev pub IsUnready : CoreState → Type 0
IsUnready core = SomeReady core.plan core.entries → ⊥

-- nobody is to be asked any more: a message is waited for, nothing is left to do, or there is no
-- room for a Step
abbrev pub AskedAllBy : CoreState → Standstill → Type 0
AskedAllBy core Waiting = (core.ended ≡ None) × IsUnready core × SomeOpen core.plan core.entries
AskedAllBy core Over = (core.ended ≡ None) × IsDone core.plan (view core.plan core.entries)
    × IsFinished core.plan core.entries
AskedAllBy core (Full f) = (f ≡ TooLong core.plan.entries)
    × (length core.entries ≡ core.plan.entries) × SomeReady core.plan core.entries

-- whoever was ready was asked
pub record HasAskedAll (old : CoreState) (standstill : Standstill) (new : CoreState) : Type 0 where
  pub goes : GoesOn old new
  pub stands : Stands new.plan new.entries
  pub by : AskedAllBy new standstill

-- a fault ends the replay of the messages A
pub record IsCutShort (P : Plan) (A : List journals.Arrival) (f : CoreFault)
    (new : CoreState) : Type 0 where
  pub plan : new.plan ≡ P
  pub replay : IsReplay P A new.entries
  pub by : IsLastFaulty P new.entries f ⊎ IsFull P A new.entries f

-- a message was given, or a fault ended the replay
abbrev pub GivenBy : CoreState → journals.Arrival → Option CoreFault → CoreState → Type 0
GivenBy old a None new = (new.ended ≡ None) × (new.plan ≡ old.plan)
    × ((A : List journals.Arrival) → IsOnWay old.plan A old.entries
    → IsOnWay old.plan (A ++ a ∷ []) new.entries)
GivenBy old a (Some f) new = (A more : List journals.Arrival) → IsOnWay old.plan A old.entries
    → IsCutShort old.plan (A ++ a ∷ more) f new

-- at how many of the first n simulators a request is open
abbrev pub open_ids : CoreState → ℕ → ℕ
open_ids core n = length (filter (λ i. is_some (open_id core i)) (range_with_len 0 n))
