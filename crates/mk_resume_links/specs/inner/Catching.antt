-- For proofs alone. What stands of a resumed run's journal, log and crew while its simulators catch
-- up and afterwards.
use Rattle.std.specs.Prelude.{◌≡◌, ℕ, ◌+◌, ◌<◌, ◌==◌, max, nat_lt, true, ◌&&◌, List, [], ◌∷◌, length, map, if◌then◌else◌}
use Rattle.mk_plan.specs.declared.Plan.{Plan}
use Rattle.mk_plan.specs.declared.Item.{Item}
use Rattle.mk_plan.specs.declared.Message.{Message}
use Rattle.mk_plan.specs.declared.Entry.{Entry}
use Rattle.mk_plan.specs.Journals.{Arrival, bare, got}
use Rattle.mk_plan.specs.Sequential.{Messages}
use Rattle.mk_scenario.specs.declared.parts.Scenario.{Scenario}
use Rattle.mk_run_laws.specs.Exchanges.{Exchange}
use Rattle.mk_run_laws.specs.Handshake.{is_within}
use Rattle.mk_run_laws.specs.Kinds.{Replies}
use Rattle.mk_run_laws.specs.Crews.{CrewState, kept_of}
use Rattle.mk_resume_walk.specs.Talks.{free_items}
use Rattle.mk_resume_links.specs.Rests.{Counts, repeated}
use Rattle.mk_resume_links.specs.inner.Touching.{IsInTouch, RepeatsByKind, RestsSoFar}

-- one message more of simulator s
abbrev pub one_more : Counts → ℕ → Counts
one_more heard s i = if i == s then heard i + 1 else heard i

-- they have come about together, each simulator having sent so many messages in this call; these
-- items were queued behind the handshake, and these replies are kept
pub record IsCatchingWith (items : ℕ → List Item) (awaits : ℕ → List Message) (saved : Counts)
    (X : Exchange) (replies : Messages) (P : Plan) (J : List Entry) (heard : Counts)
    (C : CrewState) : Type 0 where
  pub counts : (i : ℕ) → length (got J i) ≡ max (saved i) (heard i)
  pub touch : IsInTouch (λ i. repeated J i (heard i)) items awaits X.started X.scenario replies
      X.log C
  pub kinds : RepeatsByKind X.reply (is_within X.scenario) J heard
  pub rests : RestsSoFar saved X.started X.scenario replies P J X.log C.kept

-- the reply that is awaited of simulator i, if it runs within the program and a free item isn't
-- answered
abbrev pub awaited : Scenario → Replies → List Entry → Counts → ℕ → List Message
awaited S reply J heard i = if is_within S i
    && nat_lt (heard i) (length (free_items J i (heard i)))
    then reply i (map bare (free_items J i (heard i))) ∷ [] else []

-- what is free was queued, and what is awaited is kept
abbrev pub IsCatching : Counts → Exchange → Messages → Plan → List Entry → Counts → CrewState
    → Type 0
IsCatching saved X replies P J heard = IsCatchingWith
    (λ i. free_items J i (heard i)) (awaited X.scenario X.reply J heard) saved X replies P J heard

-- a reply of simulator s that was taken was awaited: the simulator runs within the program, it is
-- its kind's reply to what was free, and none of it is kept now; of the others as before
pub record WasAwaited (S : Scenario) (reply : Replies) (J : List Entry) (heard : Counts) (s : ℕ)
    (m : Message) (kept : List Arrival) : Type 0 where
  pub inside : is_within S s ≡ true
  pub is : m ≡ reply s (map bare (free_items J s (heard s)))
  pub more : heard s < length (free_items J s (heard s))
  pub none : kept_of s kept ≡ []
  pub others : (i : ℕ) → (i ≡ s → ⊥) → kept_of i kept ≡ awaited S reply J heard i
