-- The simulators of a prepared scenario that are within the program.
use Rattle.std.proofs.Common.{◌≡◌, ℕ, true, false, List, map, Option, Some, None, slice_get, refl}
use Rattle.std.specs.Prelude.{option_map, option_and_then, unwrap_or}
use Rattle.mk_base.proofs.Lists.{none_some}
use Rattle.mk_scenario.specs.declared.parts.Begin.{Begin}
use Rattle.mk_scenario.specs.declared.parts.Begin.TheVariants.{Command, Connect, Local}
use Rattle.mk_scenario.specs.declared.parts.SimPart.{SimPart}
use Rattle.mk_scenario.specs.declared.parts.Scenario.{Scenario}
use Rattle.mk_launch.specs.Ready.{CanBegin}
use Rattle.mk_local.specs.declared.turn.Turn.{Turn}
use Rattle.mk_local.specs.Kinds.{name_of}
use Rattle.mk_local.specs.Simulators.{Simulator}
use Rattle.mk_run_laws.specs.Handshake.{is_within, is_local}
use Rattle.mk_run_local.specs.Seen.{begun_as, first_of}
use Rattle.mk_run_local.specs.Made.{first_at}
use Rattle.mk_run_crew.proofs.Simulators.{local_by}

here_by : (rows : List Turn) (b : Begin) (L : Simulator) → begun_as rows b ≡ Some L → is_local b ≡ true
here_by rows (Command t) L e = absurd (none_some e)
here_by rows (Connect p) L e = absurd (none_some e)
here_by rows (Local k) L e = refl

here_in : (rows : List Turn) (o : Option SimPart) (L : Simulator) → option_and_then (first_of rows) o ≡ Some L → unwrap_or (option_map (λ (s : SimPart). is_local s.begin) o) false ≡ true
here_in rows None L e = absurd (none_some e)
here_in rows (Some s) L e = here_by rows s.begin L e

local_in : (rows : List Turn) (o : Option SimPart) → ((s : SimPart) → o ≡ Some s → CanBegin (map name_of rows) s) → unwrap_or (option_map (λ (s : SimPart). is_local s.begin) o) false ≡ true → (L : Simulator) × (option_and_then (first_of rows) o ≡ Some L)
local_in rows None fine e = cc
local_in rows (Some s) fine e = local_by rows s.begin e (fine s refl)

-- who has a simulator here is within the program
pub here_within : (rows : List Turn) (S : Scenario) (i : ℕ) (L : Simulator) → first_at rows S i ≡ Some L → is_within S i ≡ true
here_within rows S i L e = here_in rows (slice_get S.sims i) L e
