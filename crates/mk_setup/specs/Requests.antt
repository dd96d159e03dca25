-- The requests of a setup: which is next, and what it is numbered.
use Rattle.std.specs.Prelude.{ℕ, ◌-◌, List, length, map, take, filter_map, Option, slice_get, unwrap_or, []}
use Rattle.std.specs.List.{range_with_len}
use Rattle.mk_base.specs.declared.SimKind.TheVariants.{TimeBased}
use Rattle.mk_meta.specs.declared.meta.Meta.{Meta}
use Rattle.mk_scenario.specs.declared.parts.Scenario.{Scenario}
use Rattle.mk_run_laws.specs.Handshake.{Request, setup_requests, call_to, setup_count}
use Rattle.mk_setup.specs.Seen.{SetupState}

-- how many of the first k requests go to a simulator
abbrev pub id_before : Scenario → ℕ → ℕ → ℕ
id_before S k sim = length (filter_map (call_to sim) (take k (setup_requests S)))

-- how many requests each simulator gets before the run
abbrev pub first_ids : Scenario → List ℕ
first_ids S = map (setup_count S) (range_with_len 0 (length S.sims))

-- the request that follows those that were answered, if there is one
abbrev pub request_of : SetupState → Option Request
request_of U = slice_get (setup_requests U.scenario) U.answered

-- the group whose `create` that request is: the requests before the groups' are one for each
-- simulator
abbrev pub group_of : SetupState → ℕ
group_of U = U.answered - length U.scenario.sims

-- the metadata that a simulator's reply to `init` has; before it, when no group's turn has come,
-- those of a time-based simulator without models
abbrev pub meta_of : SetupState → ℕ → Meta
meta_of U sim = unwrap_or (slice_get U.metas sim) (record { kind = TimeBased; models = [] })
