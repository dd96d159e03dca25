-- How many links a scenario's simulators have, and how many were started.
use Rattle.std.specs.Prelude.{◌≡◌, ◌⊎◌, ℕ, ◌+◌, ◌≤◌, List, [], length, filter}
use Rattle.mk_outside.specs.declared.fleet.LogEntry.{LogEntry}
use Rattle.mk_scenario.specs.declared.parts.Scenario.{Scenario}
use Rattle.mk_run_laws.specs.Handshake.{has_link}
use Rattle.mk_run_crew.specs.declared.halt.Halt.{Halt}
use Rattle.mk_run_crew.specs.declared.halt.Halt.TheVariants as halt

-- how many links the scenario's simulators have
abbrev pub link_total : Scenario → ℕ
link_total S = length (filter has_link S.sims)

-- where so many links had been started, now so many have: one for each simulator that has a link,
-- unless there may be fewer, and then no more than there are simulators
pub record StartsLinks (S : Scenario) (old new : ℕ) (fewer : Type 0) : Type 0 where
  pub some : old ≤ new
  pub most : new ≤ old + length S.sims
  pub all : (fewer → ⊥) → new ≡ old + link_total S

-- the halt may be one of the start: the fleet failed or memory was wanting, and nothing was read or
-- written
abbrev pub IsOfStart : Halt → List LogEntry → Type 0
IsOfStart h log = (log ≡ []) × ((h ≡ halt.Fleet) ⊎ (h ≡ halt.Mem))
