-- What is tested before a request is made, and before the run.
use Rattle.std.specs.Prelude.{true, Option, Some, None, option_map, Result, Ok, Err}
use Rattle.mk_plan.specs.declared.Plan.{Plan}
use Rattle.mk_plan.specs.declared.Call.{Call}
use Rattle.mk_plan.specs.declared.Call.TheVariants.{Init, Create, SetupDone, Stop}
use Rattle.mk_connect_pairs.specs.declared.fault.ConnectFault.{ConnectFault}
use Rattle.mk_connect_pairs.specs.Groups.{fault_of_group}
use Rattle.mk_connect.specs.Made.{plan_made}
use Rattle.mk_run_laws.specs.Handshake.{Request}
use Rattle.mk_setup.specs.declared.fault.SetupFault.{SetupFault}
use Rattle.mk_setup.specs.declared.fault.SetupFault.TheVariants.{Connect}
use Rattle.mk_setup.specs.Requests.{first_ids, group_of, meta_of, request_of}
use Rattle.mk_setup.specs.Seen.{SetupState}

-- the plan of what has come about, or the first test that a connection fails
abbrev pub plan_of : SetupState → Result Plan ConnectFault
plan_of U = plan_made U.scenario U.ranks U.metas U.entities (first_ids U.scenario)

-- the test that failed, if one did
abbrev pub refusal : Result Plan ConnectFault → Option ConnectFault
refusal (Ok P) = None
refusal (Err e) = Some e

-- the first test that fails before a call: a group's before its `create`, the connections' before a
-- `setup_done`
abbrev pub call_fault : SetupState → Request → Call → Option ConnectFault
call_fault U r (Init id params) = None
call_fault U r (Create num model params) = fault_of_group U.scenario (group_of U) (meta_of U r.sim)
call_fault U r SetupDone = refusal (plan_of U)
call_fault U r Stop = None

-- the first test that fails before the next request, or before the run
abbrev pub test_before : SetupState → Option Request → Option ConnectFault
test_before U (Some r) = call_fault U r r.call
test_before U None = refusal (plan_of U)

-- the fault that was met before, or else the one that stands in the way of the next request
abbrev pub lasting : Option SetupFault → Option ConnectFault → Option SetupFault
lasting (Some fault) test = Some fault
lasting None test = option_map Connect test

-- the same of a state
abbrev pub fault_before : SetupState → Option SetupFault
fault_before U = lasting U.fault (test_before U (request_of U))

-- the next request is made, unless there is a fault
abbrev pub asked_unless : SetupState → Option SetupFault → Result SetupState SetupFault
asked_unless U None = Ok (record U { asked = true })
asked_unless U (Some fault) = Err fault

-- the state after the next request was made, or the fault that stands in its way
abbrev pub after_asking : SetupState → Result SetupState SetupFault
after_asking U = asked_unless U (fault_before U)
