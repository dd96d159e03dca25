-- For proofs alone. What is sent after an answer of the core.
use Rattle.std.specs.Prelude.{◌≡◌, ℕ, true, false, List, [], ◌∷◌, ◌++◌, Some, slice_get}
use Rattle.mk_base.specs.declared.SimNo.{SimNo}
use Rattle.mk_plan.specs.declared.Item.{Item}
use Rattle.mk_plan.specs.declared.Entry.{Entry}
use Rattle.mk_plan.specs.declared.Entry.TheVariants.{Sent}
use Rattle.mk_local.specs.Replies.{IsItemReplied}
use Rattle.mk_sched.specs.Cores.{CoreState}
use Rattle.mk_sched.specs.Answers.{open_id}
use Rattle.mk_run_crew.specs.declared.halt.Halt.{Halt}
use Rattle.mk_run_crew.specs.Calls.{HasNext, ShowsUnsent}
use Rattle.mk_run_crew.specs.Seen.{CrewSeen, is_here}
use Rattle.mk_run.specs.declared.outcome.Outcome.{Outcome}
use Rattle.mk_run.specs.Outcomes.{outcome_of}

-- the journal has this item at this place
abbrev pub IsItemAt : List Entry → ℕ → Item → Type 0
IsItemAt J place item = (to : SimNo) × (slice_get J place ≡ Some (Sent to item))

-- the journal ends with this item to simulator s, which goes with the id of what is open there
pub record EndsWithItem (core : CoreState) (s : SimNo) (item : Item) (id : ℕ) : Type 0 where
  pub before : List Entry
  pub last : core.entries ≡ before ++ Sent s item ∷ []
  pub opened : open_id core s.0 ≡ Some id

-- the crew takes the item with this id: a simulator within the program replies to it, or the id is
-- the next one of the simulator's link
pub record CanTake (s : ℕ) (item : Item) (id : ℕ) (C : CrewSeen) : Type 0 where
  pub replied : is_here C s ≡ true → IsItemReplied item
  pub linked : is_here C s ≡ false → HasNext item id s C

-- an item may be sent: the journal ends with one that the crew takes
abbrev pub CanSend : CoreState → SimNo → CrewSeen → Type 0
CanSend core s C = (item : Item) × (id : ℕ) × EndsWithItem core s item id × CanTake s.0 item id C

-- why the item wasn't sent
abbrev pub IsUnsent : Outcome → ℕ → Item → CrewSeen → Type 0
IsUnsent end s item C = (h : Halt) × (end ≡ outcome_of h) × ShowsUnsent h s item C
