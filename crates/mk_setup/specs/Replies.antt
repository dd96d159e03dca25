-- What a message adds to a setup, or why it adds nothing.
use Rattle.std.specs.Prelude.{ℕ, ◌+◌, ◌==◌, ◌&&◌, Bool, false, List, [], ◌∷◌, ◌++◌, Option, Some, None, Result, Ok, Err, if◌then◌else◌}
use Rattle.mk_base.specs.declared.SimNo.{SimNo}
use Rattle.mk_base.specs.declared.json.Json.{Json}
use Rattle.mk_plan.specs.declared.Call.{Call}
use Rattle.mk_plan.specs.declared.Call.TheVariants.{Init, Create, SetupDone, Stop}
use Rattle.mk_plan.specs.declared.Message.{Message}
use Rattle.mk_plan.specs.declared.Message.TheVariants.{Ask, Success, Failure}
use Rattle.mk_plan.specs.Journals.{Arrival}
use Rattle.mk_meta.specs.declared.meta.Meta.{Meta}
use Rattle.mk_meta.specs.declared.fault.MetaFault.{MetaFault}
use Rattle.mk_meta.specs.Metadata.{meta_in}
use Rattle.mk_entities.specs.declared.entities.EntityInfo.{EntityInfo}
use Rattle.mk_entities.specs.declared.fault.CreateFault.{CreateFault}
use Rattle.mk_entities.specs.Creation.{entities_added}
use Rattle.mk_run_laws.specs.Handshake.{Request}
use Rattle.mk_setup.specs.declared.fault.SetupFault.{SetupFault}
use Rattle.mk_setup.specs.declared.fault.SetupFault.TheVariants as fault
use Rattle.mk_setup.specs.Requests.{group_of, id_before, meta_of, request_of}
use Rattle.mk_setup.specs.Seen.{SetupState}

-- a message that came from a simulator
abbrev pub arrival : SimNo → Message → Arrival
arrival sim message = record { sim = sim.0; message = message }

-- one request more was answered
abbrev pub moved : SetupState → SetupState
moved U = record U { answered = U.answered + 1; asked = false }

-- the simulator's metadata is known, or why its reply has none
abbrev pub with_meta : SetupState → SimNo → Result Meta MetaFault → Result SetupState SetupFault
with_meta U sim (Ok meta) = Ok (record (moved U) { metas = U.metas ++ meta ∷ [] })
with_meta U sim (Err e) = Err (fault.Meta sim e)

-- the entities with the group's among them, or why its reply adds none
abbrev pub with_entities : SetupState → SimNo → Result (List EntityInfo) CreateFault
    → Result SetupState SetupFault
with_entities U sim (Ok entities) = Ok (record (moved U) { entities = entities })
with_entities U sim (Err e) = Err (fault.Create sim e)

-- what the content of a success reply to a call of a simulator adds
abbrev pub with_reply : SetupState → SimNo → Call → Json → Result SetupState SetupFault
with_reply U sim (Init id params) content = with_meta U sim (meta_in content)
with_reply U sim (Create num model params) content = with_entities U sim
    (entities_added U.entities sim (group_of U) num model (meta_of U sim.0) content)
with_reply U sim SetupDone content = Ok (moved U)
with_reply U sim Stop content = Ok (moved U)

-- the simulator and the id are those of this request, which is the next
abbrev pub is_reply : SetupState → Request → ℕ → ℕ → Bool
is_reply U r sim id = (sim == r.sim) && (id == id_before U.scenario U.answered r.sim)

-- what a message of a simulator adds where this request is outstanding
abbrev pub after_message : SetupState → Request → SimNo → Message → Result SetupState SetupFault
after_message U r sim (Ask id name args named) = Err (fault.Unasked sim)
after_message U r sim (Success id content) = if is_reply U r sim.0 id
    then with_reply U sim r.call content else Err (fault.Unasked sim)
after_message U r sim (Failure id text) = Err (if is_reply U r sim.0 id then fault.Failed sim text
    else fault.Unasked sim)

-- the request that was made and isn't answered
abbrev pub outstanding : SetupState → Option Request
outstanding U = if U.asked then request_of U else None

-- the same where this request, or none, is outstanding
abbrev pub after_any : SetupState → Option Request → SimNo → Message → Result SetupState SetupFault
after_any U None sim message = Err (fault.Unasked sim)
after_any U (Some r) sim message = after_message U r sim message

-- what follows unless there was a fault before
abbrev pub unless_faulty : Option SetupFault → Result SetupState SetupFault
    → Result SetupState SetupFault
unless_faulty None next = next
unless_faulty (Some f) next = Err f

-- the state after a message, or the fault that it makes
abbrev pub after_reply : SetupState → Arrival → Result SetupState SetupFault
after_reply U a = unless_faulty U.fault
    (after_any U (outstanding U) (record { 0 = a.sim }) a.message)
