-- What a setup is seen as.
use Rattle.std.specs.Prelude.{ℕ, Bool, List, Option}
use Rattle.mk_meta.specs.declared.meta.Meta.{Meta}
use Rattle.mk_entities.specs.declared.entities.EntityInfo.{EntityInfo}
use Rattle.mk_scenario.specs.declared.parts.Scenario.{Scenario}
use Rattle.mk_setup.specs.declared.fault.SetupFault.{SetupFault}

-- its scenario and ranks; the metadata and entities that the replies so far have; how many requests
-- were answered; whether the next was made; and the fault that it answers from now on
pub record SetupState : Type 0 where
  pub scenario : Scenario
  pub ranks : List ℕ
  pub metas : List Meta
  pub entities : List EntityInfo
  pub answered : ℕ
  pub asked : Bool
  pub fault : Option SetupFault
