-- A well-formed scenario's blocks stand between its groups.
use Rattle.std.proofs.Common.{length, refl}
use Rattle.mk_connect_pairs.proofs.Usable.{usable}
use Rattle.mk_connect.proofs.making.plan_with.Goals as goal

pub asyncs_of-requires : goal.asyncs_of-requires
asyncs_of-requires c = usable c.args.scenario.now c.requires (length c.args.scenario.now.groups) refl c.as_slice.result.now c.as_slice.ensures
