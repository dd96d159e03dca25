-- Answers to the goals of `within::begun_as` that the prover leaves.
use Rattle.mk_local.specs.Registries.{rows_in}
use Rattle.mk_run_local.proofs.Beginning.{kind_there}
use Rattle.mk_run_local.proofs.within.begun_as.Goals as goal

pub new-requires : goal.new-requires
new-requires g c = kind_there (rows_in c.args.kinds.now) c.in-Local.name c.args.begin.now c.in-Local.is c.requires
