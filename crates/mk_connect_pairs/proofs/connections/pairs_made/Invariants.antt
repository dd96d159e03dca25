-- The invariants and measures of the loops of `connections::pairs_made`.
use Rattle.std.proofs.Common.{◌≡◌, Ok, take}
use Rattle.mk_connect_pairs.specs.Connections.{pair_made}
use Rattle.mk_connect_pairs.specs.Faults.{through}
use Rattle.mk_connect_pairs.proofs.connections.pairs_made.Given as goal

abbrev pub invariant-loop-ends : goal.invariant-loop-ends
invariant-loop-ends l = through (pair_made l.study.sims.now l.study.models.now l.study.entities.now l.block) l.fn.made (take l.ends-index l.pairs) ≡ Ok l.made
