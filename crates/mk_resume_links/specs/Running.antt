-- What stood at each rest of a resumed run.
use Rattle.std.specs.Prelude.{◌≡◌, ℕ, max, ◌⊎◌, true, List, [], ◌∷◌, ◌++◌, length, None, Some}
use Rattle.mk_base.specs.declared.LinkNo.{LinkNo}
use Rattle.mk_base.specs.declared.tier.Tier.{Tier}
use Rattle.mk_plan.specs.declared.Plan.{Plan}
use Rattle.mk_plan.specs.declared.Entry.{Entry}
use Rattle.mk_plan.specs.Journals.{view, got}
use Rattle.mk_plan.specs.Ready.{IsReady}
use Rattle.mk_plan.specs.Sequential.{Messages}
use Rattle.mk_scenario.specs.declared.parts.Scenario.{Scenario}
use Rattle.mk_outside.specs.declared.fleet.LogEntry.{LogEntry}
use Rattle.mk_outside.specs.declared.fleet.LogEntry.TheVariants.{Rest}
use Rattle.mk_run_laws.specs.Handshake.{is_within, sim_link}
use Rattle.mk_run_laws.specs.Channels.{Channel}
use Rattle.mk_run_laws.specs.Rests.{AllSetUp}
use Rattle.mk_run_laws.specs.Running.{IsInStep, BeginsOnLink}
use Rattle.mk_resume_walk.specs.Talks.{free_items}
use Rattle.mk_resume_links.specs.Rests.{Counts, repeated}

-- when the fleet rested behind these entries, the journal was a beginning of J, nobody was ready,
-- no request was open within the program, each simulator had sent so many messages in this call,
-- and each channel was parked, in step with what was free then
pub record IsRestOf (saved : Counts) (started : ℕ) (S : Scenario) (replies : Messages)
    (P : Plan) (J : List Entry) (before : List LogEntry) : Type 0 where
  pub at : List Entry
  pub more : List Entry
  pub parts : J ≡ at ++ more
  pub nobody : (i : ℕ) (x : Tier) → IsReady P (view P at) i x → ⊥
  pub replied : (i : ℕ) → is_within S i ≡ true → (view P at).open_at i ≡ None
  pub heard : Counts
  pub counts : (i : ℕ) (l : LinkNo) → sim_link started S i ≡ Some l
      → length (got at i) ≡ max (saved i) (heard i)
  pub channel : (i : ℕ) (l : LinkNo) → sim_link started S i ≡ Some l → (w : Channel) × (w.link ≡ l)
      × (w.parked ≡ true)
      × IsInStep S replies before i (repeated at i (heard i)) (free_items at i (heard i)) w

-- after each rest of the run at which all had set up the journal got a message of a link next, if
-- anything
abbrev pub RestsEnd : Counts → ℕ → Scenario → Messages → Plan → List Entry → List LogEntry
    → Type 0
RestsEnd saved started S replies P J log = (before after : List LogEntry)
    → log ≡ before ++ Rest ∷ after → AllSetUp started S before
    → (r : IsRestOf saved started S replies P J before)
    × ((r.more ≡ []) ⊎ BeginsOnLink started S r.more)
