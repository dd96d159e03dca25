-- A run's journal, and the journal of a replay of its messages.
use Rattle.std.specs.Prelude.{◌≡◌, ℕ, ◌⊎◌, ⊤, List, length, None, Some, IsSome}
use Rattle.mk_base.specs.Lists.{BeginsWith}
use Rattle.mk_plan.specs.declared.Plan.{Plan}
use Rattle.mk_plan.specs.declared.Entry.{Entry}
use Rattle.mk_plan.specs.Journals.{arrivals, view}
use Rattle.mk_sched.specs.declared.faults.CoreFault.{CoreFault}
use Rattle.mk_sched.specs.Answers.{SomeReady, fault_in}
use Rattle.mk_run_laws.specs.Exchanges.{Exchange}
use Rattle.mk_run.specs.declared.outcome.Outcome.{Outcome}
use Rattle.mk_run.specs.declared.outcome.Outcome.TheVariants as outcome
use Rattle.mk_run.specs.Ends.{IsRun}
use Rattle.mk_record_laws.specs.Again.{steps_of}
use Rattle.mk_record_replay.specs.declared.replaying.ReplayEnd.{ReplayEnd}
use Rattle.mk_record_replay.specs.declared.replaying.ReplayEnd.TheVariants.{Done, Core, Short}
use Rattle.mk_record_replay.specs.Orders.{IsReplayBy}
use Rattle.mk_record_replay.specs.Replays.{EndsBy, IsReplay}

-- K is a replay of all messages of J, as they came, or of the first of them up to a fault
abbrev pub IsReplayOf : Plan → List Entry → List Entry → Type 0
IsReplayOf P J K = IsReplay P (arrivals J) K × ((end : ReplayEnd) × EndsBy P (arrivals J) K end)

-- nothing is to be sent at the journal's end: it has a fault, or it is full, or nothing is owed and
-- nobody is ready
abbrev pub IsSentAll : Plan → List Entry → Type 0
IsSentAll P J = IsSome (view P J).fault ⊎ ((length J ≡ P.entries)
    ⊎ (((view P J).owed ≡ None) × (SomeReady P J → ⊥)))

-- an eager journal that keeps to its plan's limit of entries begins each replay of its messages; and
-- where nothing is to be sent at its end, it is the replay's journal
pub record ReplayHasJournal (P : Plan) (J K : List Entry) : Type 0 where
  pub begins : BeginsWith K J
  pub same : IsSentAll P J → K ≡ J

-- the run ended neither for want of memory nor by an item that no frame can hold
abbrev pub IsSaidToTheEnd : Outcome → Type 0
IsSaidToTheEnd outcome.Done = ⊤
IsSaidToTheEnd (outcome.Setup f) = ⊤
IsSaidToTheEnd (outcome.Core f) = ⊤
IsSaidToTheEnd outcome.Fleet = ⊤
IsSaidToTheEnd (outcome.Gone i) = ⊤
IsSaidToTheEnd (outcome.Garbled i n) = ⊤
IsSaidToTheEnd (outcome.LongFrame i n) = ⊤
IsSaidToTheEnd (outcome.LongItem i n) = ⊥
IsSaidToTheEnd outcome.Mem = ⊥

-- the same fault; or, where that is the limit of entries, that messages are missing: one had come
-- for which there was no room
abbrev pub IsFaultAgain : CoreFault → ReplayEnd → Type 0
IsFaultAgain f end = (end ≡ Core f) ⊎ ((fault_in f ≡ None) × ((n : ℕ) × (end ≡ Short n)))

-- the replay of a run that was done is done; of one that ended by a fault of the core, it ends by
-- that again, as `IsFaultAgain` says; nothing is said of the others
abbrev pub EndsAlike : Outcome → ReplayEnd → Type 0
EndsAlike outcome.Done end = end ≡ Done
EndsAlike (outcome.Setup f) end = ⊤
EndsAlike (outcome.Core f) end = IsFaultAgain f end
EndsAlike outcome.Fleet end = ⊤
EndsAlike (outcome.Gone i) end = ⊤
EndsAlike (outcome.Garbled i n) end = ⊤
EndsAlike (outcome.LongFrame i n) end = ⊤
EndsAlike (outcome.LongItem i n) end = ⊤
EndsAlike outcome.Mem end = ⊤

-- what the replay, without an order, of the messages and the steps of a run has to do with it: the
-- run's journal begins the replay's; but for want of memory and an item that is too long it is the
-- replay's, which ends alike
pub record IsRunAgain (P : Plan) (J : List Entry) (end : Outcome) (K : List Entry)
    (replay_end : ReplayEnd) : Type 0 where
  pub begins : BeginsWith K J
  pub same : IsSaidToTheEnd end → K ≡ J
  pub ends : EndsAlike end replay_end

-- so it is of each run
abbrev pub ReplaysAreRuns : Type 0
ReplaysAreRuns = (X : Exchange) (P : Plan) (J : List Entry) (faults new_faults : ℕ)
    (end : Outcome) → IsRun X P J faults new_faults end
    → (K : List Entry) (replay_end : ReplayEnd)
    → IsReplayBy P (arrivals J) (Some (steps_of J)) None K replay_end
    → IsRunAgain P J end K replay_end
