-- What a resumed run leaves on each link when it is stopped.
use Rattle.std.proofs.Common.{◌≡◌, ℕ, List, ◌++◌, length, Some, sym, subst}
use Rattle.mk_base.specs.declared.LinkNo.{LinkNo}
use Rattle.mk_base.specs.Lists.{BeginsWith}
use Rattle.mk_plan.specs.declared.Item.{Item}
use Rattle.mk_plan.specs.declared.Message.{Message}
use Rattle.mk_plan.specs.declared.Entry.{Entry}
use Rattle.mk_plan.specs.Sequential.{Messages}
use Rattle.mk_scenario.specs.declared.parts.Scenario.{Scenario}
use Rattle.mk_outside.specs.declared.fleet.LogEntry.{LogEntry}
use Rattle.mk_run_laws.specs.Handshake.{setup_count, sim_link}
use Rattle.mk_run_laws.specs.Crews.{CrewState, AreStopped}
use Rattle.mk_run_laws.specs.inner.Running.{HasChannel}
use Rattle.mk_run_laws.proofs.Ending.{link_ended}
use Rattle.mk_resume_walk.specs.Talks.{free_items, up_to}
use Rattle.mk_resume_walk.proofs.UpTo.{up_to_got}
use Rattle.mk_resume_links.specs.Rests.{repeated}
use Rattle.mk_resume_links.specs.Runs.{IsLinkOfResumed}

-- the messages that were sent again were taken, and the first of the free items queued; a message
-- that wasn't taken may stand behind them
pub resumed_link : (started : ℕ) (S : Scenario) (replies : Messages) → ((i : ℕ) (l : LinkNo) → sim_link started S i ≡ Some l → length (replies i) ≡ setup_count S i) → (J : List Entry) (log entries : List LogEntry) (risen : Type 0) (C : CrewState)
    → AreStopped entries risen C → (i : ℕ) (l : LinkNo) → sim_link started S i ≡ Some l → (n : ℕ) (messages : List Message) (items : List Item) → HasChannel S replies log i l messages items C → BeginsWith messages (repeated J i n) → BeginsWith (free_items J i n) items
    → IsLinkOfResumed S replies J (log ++ entries) risen i l n items
resumed_link started S replies counts J log entries risen C stopped i l linked n messages items h taken queued =
    link_ended started S replies counts (up_to i n J) log entries risen C stopped i l linked messages items h (subst (BeginsWith messages) (sym (up_to_got i n J)) taken) queued
