-- For proofs alone. What was given and queued on each link so far, and what is kept.
use Rattle.std.specs.Prelude.{◌≡◌, ◌⊎◌, ℕ, ◌<◌, true, Bool, List, [], ◌∷◌, ◌++◌, length, map, Some, None, slice_get}
use Rattle.mk_base.specs.declared.LinkNo.{LinkNo}
use Rattle.mk_plan.specs.declared.Plan.{Plan}
use Rattle.mk_plan.specs.declared.Item.{Item}
use Rattle.mk_plan.specs.declared.Message.{Message}
use Rattle.mk_plan.specs.declared.Entry.{Entry}
use Rattle.mk_plan.specs.Journals.{Arrival, bare, got, view}
use Rattle.mk_plan.specs.Sequential.{Messages}
use Rattle.mk_scenario.specs.declared.parts.Scenario.{Scenario}
use Rattle.mk_outside.specs.declared.fleet.LogEntry.{LogEntry}
use Rattle.mk_outside.specs.declared.fleet.LogEntry.TheVariants.{Rest}
use Rattle.mk_run_laws.specs.Handshake.{sim_link, is_within}
use Rattle.mk_run_laws.specs.Kinds.{Replies}
use Rattle.mk_run_laws.specs.Rests.{AllSetUp}
use Rattle.mk_run_laws.specs.Crews.{CrewState, channel_at, kept_of}
use Rattle.mk_run_laws.specs.Running.{BeginsOnLink}
use Rattle.mk_run_laws.specs.inner.Running.{HasChannel, IsUnready}
use Rattle.mk_resume_walk.specs.Talks.{free_items}
use Rattle.mk_resume_links.specs.Rests.{Counts}
use Rattle.mk_resume_links.specs.Running.{IsRestOf}

-- over the log each channel gave its setup replies and these messages, and its handshake and these
-- items were queued on it; no simulator within the program has one; and these replies are kept
pub record IsInTouch (messages : ℕ → List Message) (items : ℕ → List Item)
    (awaits : ℕ → List Message) (started : ℕ) (S : Scenario) (replies : Messages)
    (log : List LogEntry) (C : CrewState) : Type 0 where
  pub channels : (i : ℕ) (l : LinkNo) → sim_link started S i ≡ Some l
      → HasChannel S replies log i l (messages i) (items i) C
  pub no_channel : (i : ℕ) → is_within S i ≡ true → channel_at C i ≡ None
  pub kept : (i : ℕ) → kept_of i C.kept ≡ awaits i

-- the messages that the simulators within the program have sent again are their kinds': each is the
-- reply to the items that were free before it, and was awaited, since there are more of these than
-- messages before it
abbrev pub RepeatsByKind : Replies → (ℕ → Bool) → List Entry → Counts → Type 0
RepeatsByKind reply within J heard = (i n : ℕ) (m : Message) → within i ≡ true → n < heard i
    → slice_get (got J i) n ≡ Some m
    → (m ≡ reply i (map bare (free_items J i n))) × (n < length (free_items J i n))

-- nobody is ready, and no request is open within the program
abbrev pub IsResting : Scenario → Plan → List Entry → Type 0
IsResting S P J = IsUnready P J
    × ((i : ℕ) → is_within S i ≡ true → (view P J).open_at i ≡ None)

-- after each rest so far at which all had set up the journal got a message of a link next
abbrev pub RestsOver : Counts → ℕ → Scenario → Messages → Plan → List Entry → List LogEntry
    → Type 0
RestsOver saved started S replies P J log = (before after : List LogEntry)
    → log ≡ before ++ Rest ∷ after → AllSetUp started S before
    → (r : IsRestOf saved started S replies P J before) × BeginsOnLink started S r.more

-- the same; or it has got nothing since, and no reply is kept
abbrev pub RestsSoFar : Counts → ℕ → Scenario → Messages → Plan → List Entry → List LogEntry
    → List Arrival → Type 0
RestsSoFar saved started S replies P J log kept = (before after : List LogEntry)
    → log ≡ before ++ Rest ∷ after → AllSetUp started S before
    → (r : IsRestOf saved started S replies P J before)
    × (((r.more ≡ []) × (kept ≡ [])) ⊎ BeginsOnLink started S r.more)
