-- What the ends of a resumed run say of its journal.
use Rattle.std.specs.Prelude.{◌≡◌, ◌⊎◌, ℕ, ◌<◌, List, [], ◌∷◌, ◌++◌, length, Option, None, Some, IsSome}
use Rattle.mk_base.specs.declared.LinkNo.{LinkNo}
use Rattle.mk_plan.specs.declared.Plan.{Plan}
use Rattle.mk_plan.specs.declared.Item.{Item}
use Rattle.mk_plan.specs.declared.Entry.{Entry}
use Rattle.mk_plan.specs.Plans.{first_id, sim_count}
use Rattle.mk_plan.specs.Journals.{Fault, got, view}
use Rattle.mk_plan.specs.Sequential.{id_after}
use Rattle.mk_frame.specs.Frames.{limit}
use Rattle.mk_message.specs.Written.{item_text}
use Rattle.mk_sched.specs.declared.faults.CoreFault.{CoreFault}
use Rattle.mk_sched.specs.declared.faults.CoreFault.TheVariants.{TooLong}
use Rattle.mk_sched.specs.Answers.{SomeOpen, SomeReady}
use Rattle.mk_scenario.specs.declared.parts.Scenario.{Scenario}
use Rattle.mk_run_laws.specs.Handshake.{sim_link}
use Rattle.mk_run.specs.Ends.{QueuedAll, IsBrokenOff, fault_named}
use Rattle.mk_resume_loop.specs.declared.ending.ResumeEnd.{ResumeEnd}
use Rattle.mk_resume_loop.specs.declared.ending.ResumeEnd.TheVariants as ends
use Rattle.mk_resume_walk.specs.Talks.{free_items}
use Rattle.mk_resume_links.specs.Rests.{Counts}

-- all that is free was queued; but for the last, where it was too long or there was no memory for
-- it. Where the plan or an entry is another, nothing was
abbrev pub QueuedAllAt : ResumeEnd → List Item → List Item → Type 0
QueuedAllAt (ends.Outcome o) all queued = QueuedAll o all queued
QueuedAllAt (ends.OtherPlan n) all queued = queued ≡ []
QueuedAllAt (ends.OtherEntry n) all queued = queued ≡ []
QueuedAllAt (ends.Differs sim place saved_ heard) all queued = queued ≡ all

-- the first free item to i that wasn't queued is one to a link, and has a payload of n bytes, more
-- than a frame may have
pub record IsLongFree (started : ℕ) (S : Scenario) (P : Plan) (J : List Entry) (heard : Counts)
    (i n : ℕ) : Type 0 where
  pub link : LinkNo
  pub linked : sim_link started S i ≡ Some link
  pub queued : List Item
  pub item : Item
  pub more : List Item
  pub parts : free_items J i (heard i) ≡ queued ++ item ∷ more
  pub bytes : length (item_text (id_after (first_id P i) queued) item) ≡ n
  pub beyond : limit < n

-- the journal is full, there is no other fault, and one entry more is needed: what is owed, a Step,
-- or a message that is left
pub record IsFull (P : Plan) (J : List Entry) (f : CoreFault) (left : Type 0) : Type 0 where
  pub named : f ≡ TooLong P.entries
  pub full : length J ≡ P.entries
  pub no_fault : (view P J).fault ≡ None
  pub more : IsSome (view P J).owed ⊎ (SomeReady P J ⊎ left)

-- the fault of a journal that the end names
abbrev pub fault_at : ResumeEnd → Option Fault
fault_at (ends.Outcome o) = fault_named o
fault_at (ends.OtherPlan n) = None
fault_at (ends.OtherEntry n) = None
fault_at (ends.Differs sim place saved_ other) = None

-- something is to come: a request is open, or a simulator hasn't sent again all that the journal
-- has of it
abbrev pub SomeToCome : Plan → List Entry → Counts → Type 0
SomeToCome P J heard = SomeOpen P J
    ⊎ ((i : ℕ) × (i < sim_count P) × (heard i < length (got J i)))

-- a resumed run waits: nobody is ready, and something is to come
abbrev pub IsRunWaiting : Plan → List Entry → Counts → Type 0
IsRunWaiting P J heard = (SomeReady P J → ⊥) × SomeToCome P J heard

-- the run was broken off while something was to come
abbrev pub IsCutOff : ResumeEnd → Type 0
IsCutOff (ends.Outcome o) = IsBrokenOff o
IsCutOff (ends.OtherPlan n) = ⊥
IsCutOff (ends.OtherEntry n) = ⊥
IsCutOff (ends.Differs sim place saved_ other) = ⊥
