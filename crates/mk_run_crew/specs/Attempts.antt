-- An attempt to run a scenario: what a call was given, and what it added to the log of its fleet.
use Rattle.std.specs.Prelude.{ℕ, List, ◌++◌}
use Rattle.mk_outside.specs.declared.fleet.LogEntry.{LogEntry}
use Rattle.mk_scenario.specs.declared.parts.Scenario.{Scenario}
use Rattle.mk_local.specs.declared.turn.Turn.{Turn}
use Rattle.mk_run_laws.specs.Exchanges.{Exchange, exchange}
use Rattle.mk_run_local.specs.Made.{kind_reply_of}

-- how many links the fleet had started before, the scenario, the ranks of its simulators, the kinds
-- within the program, and the entries by which the log grew
pub record Attempt : Type 0 where
  pub started : ℕ
  pub scenario : Scenario
  pub ranks : List ℕ
  pub rows : List Turn
  pub log : List LogEntry

-- the attempt that these are of
abbrev pub attempt : ℕ → Scenario → List ℕ → List Turn → List LogEntry → Attempt
attempt started S ranks rows log = record {
  started = started;
  scenario = S;
  ranks = ranks;
  rows = rows;
  log = log;
}

-- the same attempt, when these entries were added besides
abbrev pub longer : Attempt → List LogEntry → Attempt
longer A more = attempt A.started A.scenario A.ranks A.rows (A.log ++ more)

-- what passed between the attempt and the simulators
abbrev pub exchange_of : Attempt → Exchange
exchange_of A = exchange A.started A.scenario (kind_reply_of A.rows A.scenario) A.log
