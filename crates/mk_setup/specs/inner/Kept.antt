-- For proofs alone. Beside `Kept`, which has what a reader needs.
use Rattle.std.specs.Prelude.{◌≡◌, ◌⊎◌, ℕ, Bool, false, List, Option, Some, None, option_map, unwrap_or, slice_get, Result, Err}
use Rattle.mk_base.specs.declared.SimNo.{SimNo}
use Rattle.mk_base.specs.declared.json.Json.{Json}
use Rattle.mk_entities.specs.declared.entities.EntityInfo.{EntityInfo}
use Rattle.mk_entities.specs.declared.fault.CreateFault.{CreateFault}
use Rattle.mk_entities.specs.Creation.{entities_added}
use Rattle.mk_scenario.specs.declared.parts.Group.{Group}
use Rattle.mk_scenario.specs.declared.parts.Scenario.{Scenario}
use Rattle.mk_run_laws.specs.Handshake.{Request}
use Rattle.mk_setup.specs.declared.fault.SetupFault.{SetupFault}
use Rattle.mk_setup.specs.declared.fault.SetupFault.TheVariants.{Mem}
use Rattle.mk_setup.specs.declared.progress.Progress.{Progress}
use Rattle.mk_setup.specs.Asking.{fault_before}
use Rattle.mk_setup.specs.Replies.{is_reply, outstanding}
use Rattle.mk_setup.specs.Requests.{meta_of}
use Rattle.mk_setup.specs.Seen.{SetupState}
use Rattle.mk_setup.specs.inner.Standing.{IsSoundSetup}
use Rattle.mk_setup.specs.Kept.{state_of}

-- what is kept is sound, whatever fault was met
abbrev pub IsSoundProgress : Progress → Type 0
IsSoundProgress p = IsSoundSetup (state_of p None) p.ids p.plan

-- nothing has changed, for want of memory or by the fault that stands in the way of the next
-- request
pub record IsHindered (U : SetupState) (e : SetupFault) (V : SetupState) : Type 0 where
  pub same : V ≡ U
  pub fault : (e ≡ Mem) ⊎ ((U.asked ≡ false) × (fault_before U ≡ Some e))

-- nothing has changed, for want of memory or by the verdict's fault
pub record IsUntaken (verdict : Result SetupState SetupFault) (U : SetupState) (e : SetupFault)
    (V : SetupState) : Type 0 where
  pub same : V ≡ U
  pub fault : (e ≡ Mem) ⊎ (verdict ≡ Err e)

-- the simulator of the request that is outstanding
abbrev pub awaited_sim : SetupState → Option ℕ
awaited_sim U = option_map (λ (r : Request). r.sim) (outstanding U)

-- the request that is outstanding is to this simulator and has this id
abbrev pub is_awaited : SetupState → ℕ → ℕ → Bool
is_awaited U sim id = unwrap_or
    (option_map (λ (r : Request). is_reply U r sim id) (outstanding U)) false

-- this request is outstanding, and goes to the simulator
pub record IsAwaitedBy (U : SetupState) (sim : ℕ) (r : Request) : Type 0 where
  pub outstanding : outstanding U ≡ Some r
  pub to : r.sim ≡ sim

-- the group at this place is there, and is of this simulator
abbrev pub IsGroupOf : Scenario → ℕ → ℕ → Type 0
IsGroupOf S group sim = (g : Group) × (slice_get S.groups group ≡ Some g) × (g.sim.0 ≡ sim)

-- the entities after the reply to the `create` of this group
abbrev pub added_by : SetupState → SimNo → ℕ → Group → Json → Result (List EntityInfo) CreateFault
added_by U sim group g content = entities_added U.entities sim group g.num g.model
    (meta_of U sim.0) content
