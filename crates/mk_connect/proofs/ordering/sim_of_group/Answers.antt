-- The group is there, and its simulator is the one that the definition finds.
use Rattle.std.proofs.Common.{ap, sym, Option, unwrap_or}
use Rattle.std.specs.Prelude.{option_map}
use Rattle.mk_scenario.specs.declared.parts.Group.{Group}
use Rattle.mk_connect.proofs.ordering.sim_of_group.Goals as goal

pub returns : goal.returns
returns c = ap (λ (o : Option Group). unwrap_or (option_map (λ (g : Group). g.sim.0) o) 0) (sym c.at.ensures)
