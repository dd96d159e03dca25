-- The laws of a resumed run's log and its journal.
use Rattle.std.specs.Prelude.{◌≡◌, ℕ, List, length, Some}
use Rattle.mk_base.specs.declared.LinkNo.{LinkNo}
use Rattle.mk_plan.specs.declared.Plan.{Plan}
use Rattle.mk_plan.specs.declared.Entry.{Entry}
use Rattle.mk_plan.specs.Sequential.{Messages}
use Rattle.mk_scenario.specs.declared.parts.Scenario.{Scenario}
use Rattle.mk_outside.specs.declared.fleet.LogEntry.{LogEntry}
use Rattle.mk_run_laws.specs.Handshake.{setup_count, sim_link}
use Rattle.mk_resume_links.specs.Rests.{Counts, RestsWell}
use Rattle.mk_resume_links.specs.Running.{RestsEnd}

-- what stood at each rest of a resumed run, said of the run's own journal
abbrev pub RestsAreWell : Type 0
RestsAreWell = (saved : Counts) (started : ℕ) (S : Scenario) (replies : Messages)
    → ((i : ℕ) (l : LinkNo) → sim_link started S i ≡ Some l → length (replies i) ≡ setup_count S i)
    → (P : Plan) (J : List Entry) (log : List LogEntry)
    → RestsEnd saved started S replies P J log → RestsWell saved started S P J log
