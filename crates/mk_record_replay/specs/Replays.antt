-- What a replay of the messages that came in a run comes to, and how it ends.
use Rattle.std.specs.Prelude.{◌≡◌, ℕ, ◌<◌, ◌≤◌, ◌⊎◌, List, ◌∷◌, ◌++◌, length, map, filter, Option, Some, None, IsSome, ◌==◌}
use Rattle.mk_base.specs.Lists.{BeginsWith}
use Rattle.mk_plan.specs.declared.Plan.{Plan}
use Rattle.mk_plan.specs.declared.Entry.{Entry}
use Rattle.mk_plan.specs.Plans.{sim_count}
use Rattle.mk_plan.specs.Sequential.{Messages, run_items}
use Rattle.mk_plan.specs.Journals.{Arrival, arrivals, view, sent, bare, open_count}
use Rattle.mk_plan.specs.Ready.{IsDone}
use Rattle.mk_plan.specs.Orderly.{IsEager}
use Rattle.mk_plan.specs.Agreement.{Agrees, IsFinished}
use Rattle.mk_sched.specs.declared.faults.CoreFault.{CoreFault}
use Rattle.mk_sched.specs.declared.faults.CoreFault.TheVariants.{TooLong}
use Rattle.mk_sched.specs.Answers.{IsLastFaulty, SomeReady}
use Rattle.mk_record_read.specs.declared.saved.Asked.{Asked}
use Rattle.mk_record_compare.specs.Differences.{IsOther}
use Rattle.mk_record_replay.specs.declared.replaying.ReplayEnd.{ReplayEnd}
use Rattle.mk_record_replay.specs.declared.replaying.ReplayEnd.TheVariants.{Done, Core, Short, Other}

-- the messages of each simulator, in the order in which they came
abbrev pub messages_from : List Arrival → Messages
messages_from A i = map (λ a. a.message) (filter (λ a. a.sim == i) A)

-- the journal J is a replay of the messages A, or of the first of them: it is eager, so no message is
-- given while a simulator is ready, agrees with sequential execution, and is within the limit of
-- entries
pub record IsReplay (P : Plan) (A : List Arrival) (J : List Entry) : Type 0 where
  pub agrees : Agrees P J
  pub eager : IsEager P J
  pub given : BeginsWith A (arrivals J)
  pub within : length J ≤ P.entries

-- all messages were given, nothing is left to do or owed, each message is used and each turn ends, and
-- each simulator was sent what sequential execution over these messages sends it, max_advance aside
pub record IsWhole (P : Plan) (A : List Arrival) (J : List Entry) : Type 0 where
  pub given : arrivals J ≡ A
  pub done : IsDone P (view P J)
  pub paid : (view P J).owed ≡ None
  pub finished : IsFinished P J
  pub sent : (i : ℕ) → i < sim_count P → map bare (sent J i) ≡ run_items P (messages_from A) i

-- all messages were given, no fault was met, nobody is ready, nothing is owed, and n requests are
-- open, at least one
pub record IsShort (P : Plan) (A : List Arrival) (J : List Entry) (n : ℕ) : Type 0 where
  pub given : arrivals J ≡ A
  pub no_fault : (view P J).fault ≡ None
  pub paid : (view P J).owed ≡ None
  pub nobody : SomeReady P J → ⊥
  pub count : n ≡ open_count P (view P J)
  pub some : 1 ≤ n

-- the messages that were given are the first of A, and not all
abbrev pub SomeUngiven : List Arrival → List Entry → Type 0
SomeUngiven A J = (a : Arrival) × (more : List Arrival) × (A ≡ arrivals J ++ a ∷ more)

-- the journal is full, there is no fault, and one more entry is needed: what is owed, a Step, or a
-- message
pub record IsFull (P : Plan) (A : List Arrival) (J : List Entry) (f : CoreFault) : Type 0 where
  pub named : f ≡ TooLong P.entries
  pub full : length J ≡ P.entries
  pub no_fault : (view P J).fault ≡ None
  pub more : IsSome (view P J).owed ⊎ (SomeReady P J ⊎ SomeUngiven A J)

-- what the end of a replay of messages means
abbrev pub EndsBy : Plan → List Arrival → List Entry → ReplayEnd → Type 0
EndsBy P A J Done = IsWhole P A J
EndsBy P A J (Core f) = IsLastFaulty P J f ⊎ IsFull P A J f
EndsBy P A J (Short n) = IsShort P A J n
EndsBy P A J (Other n) = ⊥

-- how the replay of a record ends, by how that of its messages ends and which of its entries is the
-- first that isn't the journal's: a fault comes first, and then that entry
abbrev pub end_with : ReplayEnd → Option ℕ → ReplayEnd
end_with (Core f) other = Core f
end_with (Other k) other = Other k
end_with Done None = Done
end_with Done (Some n) = Other n
end_with (Short k) None = Short k
end_with (Short k) (Some n) = Other n

-- what the end of the replay of a record with these messages and steps means
pub record IsEndOf (P : Plan) (A : List Arrival) (steps : Option (List Asked)) (J : List Entry)
    (end : ReplayEnd) : Type 0 where
  pub messages_end : ReplayEnd
  pub other : Option ℕ
  pub ends : EndsBy P A J messages_end
  pub compared : IsOther A steps J other
  pub is : end ≡ end_with messages_end other
