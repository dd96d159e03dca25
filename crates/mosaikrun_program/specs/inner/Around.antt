-- For proofs alone. Beside `Around`, which has what a reader needs.
use Rattle.std.specs.Prelude.{ℕ, List, []}
use Rattle.mk_local.specs.declared.turn.Turn.{Turn}
use Rattle.mosaikrun_run.specs.Outcomes.{Outside}

-- where nothing is done with the fleet: the kinds, how many links it had started, and its count of
-- faults
abbrev pub unused : List Turn → ℕ → ℕ → Outside
unused kinds started faults = record {
  kinds = kinds;
  started = started;
  log = [];
  faults = faults;
  new_faults = faults;
}
