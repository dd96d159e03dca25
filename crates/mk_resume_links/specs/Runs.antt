-- The link of a resumed run, over its whole log.
use Rattle.std.specs.Prelude.{ℕ, List}
use Rattle.mk_base.specs.declared.LinkNo.{LinkNo}
use Rattle.mk_plan.specs.declared.Item.{Item}
use Rattle.mk_plan.specs.declared.Entry.{Entry}
use Rattle.mk_plan.specs.Sequential.{Messages}
use Rattle.mk_scenario.specs.declared.parts.Scenario.{Scenario}
use Rattle.mk_outside.specs.declared.fleet.LogEntry.{LogEntry}
use Rattle.mk_run_laws.specs.Runs.{IsLinkOfRun}
use Rattle.mk_resume_walk.specs.Talks.{up_to}

-- the link of a resumed run with the journal J, on which n messages were taken: it is that of a run
-- with the beginning of J up to the simulator's message n, from 0. So its first messages are the
-- setup replies, the next ones the first n of J; what was said is a beginning of the frames of the
-- handshake, of these items, the first of those that were free by then, and of a stop
abbrev pub IsLinkOfResumed : Scenario → Messages → List Entry → List LogEntry → Type 0 → ℕ
    → LinkNo → ℕ → List Item → Type 0
IsLinkOfResumed S replies J log risen i l n items = IsLinkOfRun S replies (up_to i n J) log risen i
    l items
