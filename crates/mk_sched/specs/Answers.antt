-- What the answers of a core mean, by the core before and after.
use Rattle.std.specs.Prelude.{◌≡◌, ℕ, ◌<◌, ◌⊎◌, ℤ, List, [], ◌∷◌, ◌++◌, length, Option, Some, None, IsSome}
use Rattle.mk_base.specs.declared.SimNo.{SimNo}
use Rattle.mk_base.specs.declared.tier.Tier.{Tier}
use Rattle.mk_plan.specs.declared.Plan.{Plan}
use Rattle.mk_plan.specs.declared.Item.{Item}
use Rattle.mk_plan.specs.declared.Input.{Input}
use Rattle.mk_plan.specs.declared.Message.{Message}
use Rattle.mk_plan.specs.declared.Entry.{Entry}
use Rattle.mk_plan.specs.declared.Entry.TheVariants.{Sent, Got}
use Rattle.mk_plan.specs.declared.Item.TheVariants.{Step}
use Rattle.mk_plan.specs.declared.Place.{Place}
use Rattle.mk_plan.specs.declared.Place.TheVariants.{Idle, Stepping, Fetching}
use Rattle.mk_plan.specs.Plans.{sim_count}
use Rattle.mk_plan.specs.Journals as journals
use Rattle.mk_plan.specs.Journals.{View, view, place_at}
use Rattle.mk_plan.specs.Ready.{IsReady, IsDone}
use Rattle.mk_plan.specs.Advance.{IsAdvance}
use Rattle.mk_plan.specs.Orderly.{IsAllowed}
use Rattle.mk_plan.specs.Agreement.{IsFinished}
use Rattle.mk_sched.specs.declared.faults.CoreFault.{CoreFault}
use Rattle.mk_sched.specs.declared.faults.CoreFault.TheVariants.{Wrong, Failed, LoopLimit, TooLong}
use Rattle.mk_sched.specs.declared.faults.Ended.{Ended}
use Rattle.mk_sched.specs.declared.faults.Ended.TheVariants.{Faulty, OutOfMemory}
use Rattle.mk_sched.specs.declared.faults.Next.{Next}
use Rattle.mk_sched.specs.declared.faults.Next.TheVariants.{Ask, Wait, Done, Fault}
use Rattle.mk_sched.specs.declared.faults.Taken.{Taken}
use Rattle.mk_sched.specs.declared.faults.Taken.TheVariants as taken
use Rattle.mk_sched.specs.Cores.{CoreState}

-- the fault of a journal that a core's fault names; the limit of entries is none
abbrev pub fault_in : CoreFault → Option journals.Fault
fault_in (Wrong sim place cause) = Some (journals.WrongMessage sim.0 place cause)
fault_in (Failed sim place) = Some (journals.FailedSim sim.0 place)
fault_in (LoopLimit sim time) = Some (journals.LoopLimit sim.0 time)
fault_in (TooLong entries) = None

-- the last entry is a message that makes this fault, and there was none before
pub record IsLastFaulty (P : Plan) (J : List Entry) (f : CoreFault) : Type 0 where
  pub before : List Entry
  pub sim : SimNo
  pub message : Message
  pub is : J ≡ before ++ Got sim message ∷ []
  pub right_before : (view P before).fault ≡ None
  pub named : IsSome (fault_in f)
  pub fault : (view P J).fault ≡ fault_in f

-- the core has not ended
abbrev pub IsGoing : CoreState → Type 0
IsGoing core = core.ended ≡ None

-- somebody is ready
abbrev pub SomeReady : Plan → List Entry → Type 0
SomeReady P J = (s : ℕ) × (x : Tier) × IsReady P (view P J) s x

-- some request is open
abbrev pub SomeOpen : Plan → List Entry → Type 0
SomeOpen P J = (s : ℕ) × ((s < sim_count P) × ((view P J).open_at s ≡ None → ⊥))

-- the core has met a fault before, and nothing has changed
abbrev pub WasFaulty : CoreState → CoreFault → CoreState → Type 0
WasFaulty old fault new = (old.ended ≡ Some (Faulty fault)) × (new ≡ old)

-- the core with these entries and this end
abbrev pub moved : CoreState → List Entry → Option Ended → CoreState
moved old J ended = record { plan = old.plan; entries = J; ended = ended }

-- the simulator's Step is the next entry, and the journal now ends with it
pub record IsAsked (old : CoreState) (sim : SimNo) (new : CoreState) : Type 0 where
  pub going : IsGoing old
  pub at : Tier
  pub inputs : List Input
  pub advance : ℤ
  pub allowed : IsAllowed IsReady IsAdvance old.plan (view old.plan old.entries)
      (Sent sim (Step at inputs advance))
  pub moved : new ≡ moved old (old.entries ++ Sent sim (Step at inputs advance) ∷ []) None

-- nobody is ready, and some request is open
pub record AwaitsMessage (old new : CoreState) : Type 0 where
  pub going : IsGoing old
  pub nobody : SomeReady old.plan old.entries → ⊥
  pub waiting : SomeOpen old.plan old.entries
  pub same : new ≡ old

-- nothing is left to do
pub record IsOver (old new : CoreState) : Type 0 where
  pub going : IsGoing old
  pub done : IsDone old.plan (view old.plan old.entries)
  pub finished : IsFinished old.plan old.entries
  pub same : new ≡ old

-- somebody is ready, and there is no room for the Step
pub record IsFull (old : CoreState) (fault : CoreFault) (new : CoreState) : Type 0 where
  pub going : IsGoing old
  pub named : fault ≡ TooLong old.plan.entries
  pub full : length old.entries ≡ old.plan.entries
  pub ready : SomeReady old.plan old.entries
  pub ended : new ≡ moved old old.entries (Some (Faulty fault))

-- what an answer to `next` means
abbrev pub NextOf : CoreState → Next → CoreState → Type 0
NextOf old (Ask sim) new = IsAsked old sim new
NextOf old Wait new = AwaitsMessage old new
NextOf old Done new = IsOver old new
NextOf old (Fault fault) new = WasFaulty old fault new ⊎ IsFull old fault new

-- want of memory: the core has not met a fault before; its plan and its entries are as they were,
-- and it has ended
pub record IsOutOfMemory (old new : CoreState) : Type 0 where
  pub no_fault : (fault : CoreFault) → old.ended ≡ Some (Faulty fault) → ⊥
  pub ended : new ≡ moved old old.entries (Some OutOfMemory)

-- the entries with a message
abbrev pub with_message : CoreState → SimNo → Message → List Entry
with_message old sim message = old.entries ++ Got sim message ∷ []

-- what has come about with a message
abbrev pub seen_with : CoreState → SimNo → Message → View
seen_with old sim message = view old.plan (with_message old sim message)

-- the core has not ended, and its journal has room
pub record HasRoom (core : CoreState) : Type 0 where
  pub going : IsGoing core
  pub room : length core.entries < core.plan.entries

-- the message is right, and nothing is owed after it
pub record IsQuiet (old : CoreState) (sim : SimNo) (message : Message)
    (new : CoreState) : Type 0 where
  pub room : HasRoom old
  pub no_fault : (seen_with old sim message).fault ≡ None
  pub none_owed : (seen_with old sim message).owed ≡ None
  pub moved : new ≡ moved old (with_message old sim message) None

-- the message is right, and the journal now ends with the item that is owed after it
pub record IsAnswered (old : CoreState) (sim : SimNo) (message : Message)
    (new : CoreState) : Type 0 where
  pub room : HasRoom old
  pub no_fault : (seen_with old sim message).fault ≡ None
  pub item : Item
  pub owed : (seen_with old sim message).owed ≡ Some (record { sim = sim.0; item = item })
  pub moved : new ≡ moved old (with_message old sim message ++ Sent sim item ∷ []) None

-- the message makes a fault
pub record IsFaulty (old : CoreState) (sim : SimNo) (message : Message) (fault : CoreFault)
    (new : CoreState) : Type 0 where
  pub room : HasRoom old
  pub named : IsSome (fault_in fault)
  pub made : (seen_with old sim message).fault ≡ fault_in fault
  pub ended : new ≡ moved old (with_message old sim message) (Some (Faulty fault))

-- there is no room for the message
pub record IsUntaken (old : CoreState) (fault : CoreFault) (new : CoreState) : Type 0 where
  pub going : IsGoing old
  pub named : fault ≡ TooLong old.plan.entries
  pub full : length old.entries ≡ old.plan.entries
  pub ended : new ≡ moved old old.entries (Some (Faulty fault))

-- the message is right, and there is no room for the item that is owed after it
pub record IsUnanswered (old : CoreState) (sim : SimNo) (message : Message) (fault : CoreFault)
    (new : CoreState) : Type 0 where
  pub room : HasRoom old
  pub no_fault : (seen_with old sim message).fault ≡ None
  pub owed : IsSome (seen_with old sim message).owed
  pub named : fault ≡ TooLong old.plan.entries
  pub full : length (with_message old sim message) ≡ old.plan.entries
  pub ended : new ≡ moved old (with_message old sim message) (Some (Faulty fault))

-- what an answer to `take` and to `arrive` means
abbrev pub ArriveOf : CoreState → SimNo → Message → Taken → CoreState → Type 0
ArriveOf old sim message taken.Quiet new = IsQuiet old sim message new
ArriveOf old sim message taken.Send new = IsAnswered old sim message new
ArriveOf old sim message (taken.Fault fault) new = WasFaulty old fault new
    ⊎ (IsUntaken old fault new
    ⊎ (IsFaulty old sim message fault new ⊎ IsUnanswered old sim message fault new))

-- the id of what is open
abbrev pub id_at : Place → Option ℕ
id_at Idle = None
id_at (Stepping at id asks) = Some id
id_at (Fetching at id) = Some id

-- the id of the request that is open at a simulator
abbrev pub open_id : CoreState → ℕ → Option ℕ
open_id core i = id_at (place_at ((view core.plan core.entries).open_at i))
