-- For proofs alone. What is derived from the journal, and what one call leaves of it.
use Rattle.std.specs.Prelude.{◌≡◌, ◌≢◌, ℕ, ◌<◌, ◌≤◌, ℤ, int_lt, true, List, [], ◌∷◌, ◌++◌, length, Option, Some, None, unwrap_or, option_map, option_and_then, if◌then◌else◌, Result, Ok, Err, IfOk, IfErr}
use Rattle.mk_base.specs.declared.Mem.{Mem}
use Rattle.mk_base.specs.declared.SimNo.{SimNo}
use Rattle.mk_base.specs.declared.tier.Tier.{Tier}
use Rattle.mk_base.specs.declared.json.Json.{Json}
use Rattle.mk_base.specs.Tiers.{moment}
use Rattle.mk_base.specs.Trees.{whole_in}
use Rattle.mk_plan.specs.Turns.{time_in}
use Rattle.mk_plan.specs.declared.Plan.{Plan}
use Rattle.mk_plan.specs.declared.Entry.{Entry}
use Rattle.mk_plan.specs.declared.Entry.TheVariants.{Sent, Got}
use Rattle.mk_plan.specs.declared.Message.{Message}
use Rattle.mk_plan.specs.declared.Place.{Place}
use Rattle.mk_plan.specs.declared.Place.TheVariants.{Idle, Stepping, Fetching}
use Rattle.mk_plan.specs.declared.Cause.{Cause}
use Rattle.mk_plan.specs.declared.Cause.TheVariants as cause
use Rattle.mk_plan.specs.Plans.{IsValidPlan, sim_count}
use Rattle.mk_plan.specs.Journals.{View, OpenTurn, view}
use Rattle.mk_plan.specs.Orderly.{IsOrderly}
use Rattle.mk_sched_agenda.specs.Mirrors.{Mirrors}
use Rattle.mk_sched_agenda.specs.declared.outlets.Beyond.{Beyond}
use Rattle.mk_sched_open.specs.Sims.{AreSimsOf}
use Rattle.mk_sched_open.specs.Turns.{IsRight, IsPlaceInRun}
use Rattle.mk_sched_supply.specs.Stock.{IsStockOf}
use Rattle.mk_sched.specs.declared.derived.Derived.{Derived}
use Rattle.mk_sched.specs.declared.faults.CoreFault.{CoreFault}
use Rattle.mk_sched.specs.declared.faults.CoreFault.TheVariants.{Wrong, Failed, LoopLimit}
use Rattle.mk_sched.specs.declared.faults.Ended.{Ended}
use Rattle.mk_sched.specs.declared.faults.Ended.TheVariants.{Faulty, OutOfMemory}
use Rattle.mk_sched.specs.declared.faults.Next.{Next}
use Rattle.mk_sched.specs.declared.faults.Next.TheVariants as next
use Rattle.mk_sched.specs.declared.faults.Taken.{Taken}
use Rattle.mk_sched.specs.declared.faults.Taken.TheVariants as taken
use Rattle.mk_sched.specs.declared.taking.Upshot.{Upshot}
use Rattle.mk_sched.specs.declared.taking.Upshot.TheVariants as upshot
use Rattle.mk_sched.specs.Cores.{CoreState}
use Rattle.mk_sched.specs.Answers.{NextOf, ArriveOf}
use Rattle.mk_sched.specs.inner.Holding.{HasGivenUp}
use Rattle.mk_plan.specs.Messages.{is_message_in_range}

-- what was derived stands for the view of a journal of n entries; nothing is owed, and there is no
-- fault
pub record IsCurrent (P : Plan) (V : View) (n : ℕ) (K : Derived) : Type 0 where
  pub sims : AreSimsOf P V n K.sims
  pub agenda : Mirrors P V K.agenda
  pub stock : IsStockOf P V K.stock
  pub no_fault : V.fault ≡ None
  pub none_owed : V.owed ≡ None

-- what holds of the fields of a core
pub record IsDerived (P : Plan) (J : List Entry) (K : Derived) (end : Option Ended) : Type 0 where
  pub valid : IsValidPlan P
  pub orderly : IsOrderly P J
  pub within : length J ≤ P.entries
  pub current : end ≡ None → IsCurrent P (view P J) (length J) K

-- a core by its fields
abbrev pub core_of : Plan → List Entry → Option Ended → CoreState
core_of P J end = record { plan = P; entries = J; ended = end }

-- what a core answers after these answers to `next` and to `take`, if it has ended
abbrev pub end_after_next : Result Next Mem → Option Ended
end_after_next (Ok (next.Ask sim)) = None
end_after_next (Ok next.Wait) = None
end_after_next (Ok next.Done) = None
end_after_next (Ok (next.Fault fault)) = Some (Faulty fault)
end_after_next (Err e) = Some OutOfMemory

abbrev pub end_after_arrive : Result Taken Mem → Option Ended
end_after_arrive (Ok taken.Quiet) = None
end_after_arrive (Ok taken.Send) = None
end_after_arrive (Ok (taken.Fault fault)) = Some (Faulty fault)
end_after_arrive (Err e) = Some OutOfMemory

-- what `next` leaves
pub record HasAdvanced (P : Plan) (J : List Entry) (answer : Result Next Mem) (L : Derived)
    (M : List Entry) : Type 0 where
  pub derived : IsDerived P M L (end_after_next answer)
  pub given_up : HasGivenUp P M L (end_after_next answer)
  pub ok : IfOk answer
      (λ next. NextOf (core_of P J None) next (core_of P M (end_after_next answer)))
  pub err : IfErr answer (λ _. M ≡ J)

-- what `take` leaves
pub record HasTaken (P : Plan) (J : List Entry) (sim : SimNo) (m : Message)
    (answer : Result Taken Mem) (L : Derived) (M : List Entry) : Type 0 where
  pub derived : IsDerived P M L (end_after_arrive answer)
  pub ok : IfOk answer
      (λ taken. ArriveOf (core_of P J None) sim m taken (core_of P M (end_after_arrive answer)))
  pub err : IfErr answer (λ _. M ≡ J)

-- what is answered where this follows a message
abbrev pub taken_by : Upshot → Taken
taken_by upshot.Quiet = taken.Quiet
taken_by (upshot.Send item) = taken.Send
taken_by (upshot.Fault fault) = taken.Fault fault

-- the journal with a message and what follows it
abbrev pub entries_by : List Entry → SimNo → Message → Upshot → List Entry
entries_by J sim m upshot.Quiet = J ++ Got sim m ∷ []
entries_by J sim m (upshot.Send item) = J ++ Got sim m ∷ [] ++ Sent sim item ∷ []
entries_by J sim m (upshot.Fault fault) = J ++ Got sim m ∷ []

-- this follows a message, and leaves what is derived
abbrev pub Leaves : Plan → List Entry → SimNo → Message → Upshot → Derived → Type 0
Leaves P J sim m u L = HasTaken P J sim m (Ok (taken_by u)) L (entries_by J sim m u)

-- a message in range, of a simulator of the plan, comes to a core that hasn't ended and has room for
-- it
pub record IsTaking (P : Plan) (J : List Entry) (K : Derived) (sim : SimNo)
    (m : Message) : Type 0 where
  pub derived : IsDerived P J K None
  pub there : sim.0 < sim_count P
  pub room : length J ≢ P.entries
  pub form : is_message_in_range m ≡ true

-- the message is right at the place of what is open at s, and this place follows, or none where the
-- turn has ended
pub record IsJudged (P : Plan) (V : View) (s : ℕ) (m : Message) (place : Place)
    (q : Option Place) : Type 0 where
  pub turn : OpenTurn
  pub right : IsRight P V s m turn q
  pub same : turn.place ≡ place
  pub run : IsPlaceInRun place

-- it ends a turn at x with the reply to the Step
pub record EndsStep (P : Plan) (V : View) (s : ℕ) (m : Message) (x : Tier) : Type 0 where
  pub id : ℕ
  pub asks : ℕ
  pub judged : IsJudged P V s m (Stepping x id asks) None

-- it ends a turn at x with the reply to the GetData
pub record EndsFetch (P : Plan) (V : View) (s : ℕ) (m : Message) (x : Tier) : Type 0 where
  pub id : ℕ
  pub judged : IsJudged P V s m (Fetching x id) None

-- the time of what is open, or the other where nothing is
abbrev pub time_at : Place → Tier → Tier
time_at Idle other = other
time_at (Stepping at id asks) other = at
time_at (Fetching at id) other = at

-- the fault that a wrong message makes, where so many messages were heard before it
abbrev pub fault_by : SimNo → ℕ → Cause → CoreFault
fault_by sim heard (cause.Wrong n) = Wrong sim heard n
fault_by sim heard cause.Failed = Failed sim heard

-- the fault of a trigger beyond the loop limit
abbrev pub limit_by : Beyond → CoreFault
limit_by b = LoopLimit b.sim b.time

-- when the outputs of a step at x are made, where its data have this content
abbrev pub made_at : Tier → Json → Tier
made_at x content = unwrap_or
    (option_map (λ (o : ℤ). if int_lt x.time o then moment o
    else x) (option_and_then whole_in (time_in content))) x
