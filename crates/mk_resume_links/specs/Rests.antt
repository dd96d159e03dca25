-- What holds where a resumed run waits.
use Rattle.std.specs.Prelude.{◌≡◌, ℕ, max, true, List, ◌∷◌, ◌++◌, length, take, Option, None, Some, option_map}
use Rattle.mk_base.specs.declared.LinkNo.{LinkNo}
use Rattle.mk_base.specs.declared.tier.Tier.{Tier}
use Rattle.mk_base.specs.Lists.{BeginsWith}
use Rattle.mk_plan.specs.declared.Plan.{Plan}
use Rattle.mk_plan.specs.declared.Message.{Message}
use Rattle.mk_plan.specs.declared.Entry.{Entry}
use Rattle.mk_plan.specs.Journals.{view, got}
use Rattle.mk_plan.specs.Ready.{IsReady}
use Rattle.mk_scenario.specs.declared.parts.Scenario.{Scenario}
use Rattle.mk_outside.specs.declared.fleet.LogEntry.{LogEntry}
use Rattle.mk_outside.specs.declared.fleet.LogEntry.TheVariants.{NotHeard, Rest}
use Rattle.mk_outside.specs.Logs.{last_read}
use Rattle.mk_run_laws.specs.Handshake.{is_within, sim_link}
use Rattle.mk_run_laws.specs.Rests.{within, run_messages, AllSetUp, all_frames, SaysAll}
use Rattle.mk_resume_walk.specs.Talks.{free_items}

-- a number of messages for each simulator
abbrev pub Counts : Type 0
Counts = ℕ → ℕ

-- the messages of simulator i that it has sent again, once it has sent n in this call
abbrev pub repeated : List Entry → ℕ → ℕ → List Message
repeated J i n = take n (got J i)

-- how many messages of simulator i the journal has at a rest, where it has a link: as many as the
-- record has of it, or as were heard by then, whichever are more
abbrev pub rest_counts : Counts → ℕ → Scenario → List LogEntry → ℕ → Option ℕ
rest_counts saved started S log i = option_map
    (λ (l : LinkNo). max (saved i) (length (run_messages S log i l))) (sim_link started S i)

-- of the journal of a resumed run, what was there at the rest behind these entries
abbrev pub at_rest : Counts → ℕ → Scenario → List LogEntry → List Entry → List Entry
at_rest saved started S before J = within (rest_counts saved started S before) J

-- where a resumed run rests, J being its journal: what was there by then begins, for each link,
-- with all messages heard by then; nobody is ready in it, and no request is open within the
-- program; the handshake was said and the items that were free by then, and no others, or a
-- beginning of these after which a write took nothing; and the last read of each link found nothing
pub record IsWellAtRest (saved : Counts) (started : ℕ) (S : Scenario) (P : Plan) (J : List Entry)
    (before : List LogEntry) : Type 0 where
  pub has_all : (i : ℕ) (l : LinkNo) → sim_link started S i ≡ Some l
      → BeginsWith (got (at_rest saved started S before J) i) (run_messages S before i l)
  pub nobody : (i : ℕ) (x : Tier)
      → IsReady P (view P (at_rest saved started S before J)) i x → ⊥
  pub replied : (i : ℕ) → is_within S i ≡ true
      → (view P (at_rest saved started S before J)).open_at i ≡ None
  pub said : (i : ℕ) (l : LinkNo) → sim_link started S i ≡ Some l
      → SaysAll l before (all_frames S i
      (free_items (at_rest saved started S before J) i (length (run_messages S before i l))))
  pub heard_all : (i : ℕ) (l : LinkNo) → sim_link started S i ≡ Some l
      → last_read l before ≡ Some (NotHeard l)

-- so it is at each rest at which all had set up
abbrev pub RestsWell : Counts → ℕ → Scenario → Plan → List Entry → List LogEntry → Type 0
RestsWell saved started S P J log = (before after : List LogEntry) → log ≡ before ++ Rest ∷ after
    → AllSetUp started S before → IsWellAtRest saved started S P J before
