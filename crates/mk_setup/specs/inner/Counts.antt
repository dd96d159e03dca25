-- For proofs alone. How many requests to each simulator were answered, as they are counted.
use Rattle.std.specs.Prelude.{◌≡◌, ◌≤◌, ℕ, List, length, map, Option, Some, option_map, slice_get}
use Rattle.std.specs.List.{range_with_len}
use Rattle.mk_scenario.specs.declared.parts.Scenario.{Scenario}
use Rattle.mk_scenario.specs.Wellformed.{IsWellformed}
use Rattle.mk_run_laws.specs.Handshake.{Request, setup_requests}
use Rattle.mk_setup.specs.Requests.{id_before}

-- of a well-formed scenario, which has at least k requests, each id is how many of the first k go to its
-- simulator
pub record IsCounted (S : Scenario) (k : ℕ) (ids : List ℕ) : Type 0 where
  pub wellformed : IsWellformed S
  pub within : k ≤ length (setup_requests S)
  pub numbered : ids ≡ map (id_before S k) (range_with_len 0 (length S.sims))

-- the simulator of request number k, if there is such a request
abbrev pub sim_after : Scenario → ℕ → Option ℕ
sim_after S k = option_map (λ (r : Request). r.sim) (slice_get (setup_requests S) k)

-- request number k is there, and goes to this simulator
abbrev pub IsToSim : Scenario → ℕ → ℕ → Type 0
IsToSim S k sim = sim_after S k ≡ Some sim
