-- The journal of a core after the messages of a record.
use Rattle.std.specs.Prelude.{◌≡◌, ◌⊎◌, ℕ, List, Option, Some, None}
use Rattle.mk_plan.specs.declared.Plan.{Plan}
use Rattle.mk_plan.specs.declared.Entry.{Entry}
use Rattle.mk_plan.specs.Journals.{Arrival, arrivals, view}
use Rattle.mk_record_read.specs.declared.saved.Asked.{Asked}
use Rattle.mk_record_compare.specs.Differences.{IsOther}
use Rattle.mk_sched.specs.declared.faults.CoreFault.{CoreFault}
use Rattle.mk_sched.specs.Answers.{IsLastFaulty, SomeReady}
use Rattle.mk_sched.specs.Cores.{CoreState}
use Rattle.mk_record_replay.specs.Replays.{IsReplay, IsFull}
use Rattle.mk_record_restored.specs.declared.restoring.Restored.{Restored}
use Rattle.mk_record_restored.specs.declared.restoring.Restored.TheVariants as restored

-- the messages A were given, in their order and as a replay does, and whoever was ready then was
-- asked; no fault was met, and nothing is owed
pub record IsRestored (P : Plan) (A : List Arrival) (J : List Entry) : Type 0 where
  pub replay : IsReplay P A J
  pub given : arrivals J ≡ A
  pub no_fault : (view P J).fault ≡ None
  pub paid : (view P J).owed ≡ None
  pub nobody : SomeReady P J → ⊥

-- a fault was met on that way: by a message, or for want of room
pub record IsFaulted (P : Plan) (A : List Arrival) (J : List Entry) (f : CoreFault) : Type 0 where
  pub replay : IsReplay P A J
  pub cause : IsLastFaulty P J f ⊎ IsFull P A J f

-- the record's entry n, from 0, is the first that isn't the journal's, which the record's messages
-- make
pub record IsOtherIn (P : Plan) (A : List Arrival) (asks : Option (List Asked))
    (n : ℕ) : Type 0 where
  pub journal : List Entry
  pub restored : IsRestored P A journal
  pub other : IsOther A asks journal (Some n)

-- the core goes on after the record's messages, and its journal begins with all that the record has
pub record IsOnward (P : Plan) (A : List Arrival) (asks : Option (List Asked))
    (core : CoreState) : Type 0 where
  pub plan : core.plan ≡ P
  pub going : core.ended ≡ None
  pub restored : IsRestored P A core.entries
  pub same : IsOther A asks core.entries None

-- what comes of the messages and the steps of a record
abbrev pub RestoresAs : Plan → List Arrival → Option (List Asked) → Restored → Type 0
RestoresAs P A asks (restored.Onward core) = IsOnward P A asks core
RestoresAs P A asks (restored.Other n) = IsOtherIn P A asks n
RestoresAs P A asks (restored.Faulted f Q J) = (Q ≡ P) × IsFaulted P A J.entries f

-- that is one thing
abbrev pub RestoredIsOne : Type 0
RestoredIsOne = (P : Plan) (A : List Arrival) (asks : Option (List Asked)) (r s : Restored)
    → RestoresAs P A asks r → RestoresAs P A asks s → r ≡ s
