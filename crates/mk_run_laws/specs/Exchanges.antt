-- What passes between a run and the simulators of its scenario.
use Rattle.std.specs.Prelude.{ℕ, List}
use Rattle.mk_outside.specs.declared.fleet.LogEntry.{LogEntry}
use Rattle.mk_scenario.specs.declared.parts.Scenario.{Scenario}
use Rattle.mk_run_laws.specs.Kinds.{Replies}

-- how many links the fleet had started before, the scenario, what the simulators within the program
-- reply, and the entries of the log, which show what was said and heard on the links of the others
pub record Exchange : Type 0 where
  pub started : ℕ
  pub scenario : Scenario
  pub reply : Replies
  pub log : List LogEntry

-- the exchange that these are of
abbrev pub exchange : ℕ → Scenario → Replies → List LogEntry → Exchange
exchange started S reply log = record {
  started = started;
  scenario = S;
  reply = reply;
  log = log;
}
