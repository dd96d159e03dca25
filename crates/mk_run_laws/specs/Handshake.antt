-- The requests of the handshake, and which simulators have a link.
use Rattle.std.specs.Prelude.{ℕ, ◌+◌, ◌==◌, Bool, true, false, not, List, [], ◌∷◌, ◌++◌, length, take, map, filter, filter_map, Option, Some, None, slice_get, unwrap_or, option_map, option_and_then, if◌then◌else◌}
use Rattle.std.specs.List.{enumerate_from}
use Rattle.mk_base.specs.declared.LinkNo.{LinkNo}
use Rattle.mk_plan.specs.declared.Call.{Call}
use Rattle.mk_plan.specs.declared.Call.TheVariants.{Init, Create, SetupDone}
use Rattle.mk_message.specs.Written.{call_text}
use Rattle.mk_scenario.specs.declared.parts.Begin.{Begin}
use Rattle.mk_scenario.specs.declared.parts.Begin.TheVariants.{Command, Connect, Local}
use Rattle.mk_scenario.specs.declared.parts.SimPart.{SimPart}
use Rattle.mk_scenario.specs.declared.parts.Scenario.{Scenario}

-- a request of the handshake, and the simulator that it goes to
pub record Request : Type 0 where
  pub sim : ℕ
  pub call : Call

-- the requests in order: init to each simulator, create for each group, setup_done to each
-- simulator
abbrev pub setup_requests : Scenario → List Request
setup_requests S = map (λ n. record { sim = n.0; call = Init n.1.id n.1.params })
    (enumerate_from 0 S.sims)
    ++ map (λ g. record { sim = g.sim.0; call = Create g.num g.model g.params }) S.groups
    ++ map (λ n. record { sim = n.0; call = SetupDone }) (enumerate_from 0 S.sims)

-- the call of a request, if it goes to simulator i
abbrev pub call_to : ℕ → Request → Option Call
call_to i r = if r.sim == i then Some r.call else None

-- the calls to simulator i, in order
abbrev pub calls_to : Scenario → ℕ → List Call
calls_to S i = filter_map (call_to i) (setup_requests S)

-- how many there are: the first id of the simulator's run
abbrev pub setup_count : Scenario → ℕ → ℕ
setup_count S i = length (calls_to S i)

-- the payloads of these calls, with ids that count up from id
abbrev pub call_payloads : ℕ → List Call → List (List ℕ)
call_payloads id [] = []
call_payloads id (call ∷ calls) = call_text id call ∷ call_payloads (id + 1) calls

-- the payloads of the handshake with simulator i
abbrev pub setup_payloads : Scenario → ℕ → List (List ℕ)
setup_payloads S i = call_payloads 0 (calls_to S i)

-- the simulator runs within the program
abbrev pub is_local : Begin → Bool
is_local (Command template) = false
is_local (Connect port) = false
is_local (Local kind) = true

-- the simulator has a link
abbrev pub has_link : SimPart → Bool
has_link s = not (is_local s.begin)

-- simulator i runs within the program
abbrev pub is_within : Scenario → ℕ → Bool
is_within S i = unwrap_or
    (option_map (λ (s : SimPart). is_local s.begin) (slice_get S.sims i)) false

-- the link of simulator i, where links are started in order of the simulators, and so many were
-- started before
abbrev pub sim_link : ℕ → Scenario → ℕ → Option LinkNo
sim_link started S i = option_and_then (λ (s : SimPart). if has_link s
    then Some (record { 0 = started + length (filter has_link (take i S.sims)) })
    else None) (slice_get S.sims i)
