-- What is said of a fault of the handshake, by the ids of a scenario's simulators.
use Rattle.std.specs.Prelude.{ℕ, List, [], map, slice_get, unwrap_or}
use Rattle.mk_base.specs.declared.SimNo.{SimNo}
use Rattle.mk_scenario.specs.declared.parts.Scenario.{Scenario}
use Rattle.mk_scenario.specs.declared.parts.SimPart.{SimPart}
use Rattle.mk_setup.specs.declared.fault.SetupFault.{SetupFault}
use Rattle.mk_setup.specs.declared.fault.SetupFault.TheVariants as fault
use Rattle.mosaikrun_endings.specs.declared.setup.SetupEnding.TheVariants as setup
use Rattle.mosaikrun_endings.specs.declared.ending.Ending.{Ending}
use Rattle.mosaikrun_endings.specs.declared.ending.Ending.TheVariants as ends

-- the ids of a scenario's simulators, in order
abbrev pub ids_of : Scenario → List (List ℕ)
ids_of S = map (λ (part : SimPart). part.id) S.sims

-- the id of a simulator, by its number; the empty text where there is none of this number, so that
-- any fault is said by any ids
abbrev pub id_in : List (List ℕ) → SimNo → List ℕ
id_in ids sim = unwrap_or (slice_get ids sim.0) []

-- what is said of a fault of the handshake, the simulators having these ids
abbrev pub setup_ending : List (List ℕ) → SetupFault → Ending
setup_ending ids (fault.Meta sim e) = ends.Setup (setup.Meta (id_in ids sim) e)
setup_ending ids (fault.Create sim e) = ends.Setup (setup.Create (id_in ids sim) e)
setup_ending ids (fault.Connect e) = ends.Setup (setup.Connect e)
setup_ending ids (fault.Unasked sim) = ends.Setup (setup.Unasked (id_in ids sim))
setup_ending ids (fault.Failed sim text) = ends.Setup (setup.Failed (id_in ids sim) text)
setup_ending ids fault.Mem = ends.Mem
