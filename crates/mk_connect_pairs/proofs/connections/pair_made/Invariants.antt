-- The invariants and measures of the loops of `connections::pair_made`.
use Rattle.std.proofs.Common.{◌≡◌, Ok, take}
use Rattle.mk_connect_pairs.specs.Connections.{connected}
use Rattle.mk_connect_pairs.specs.Faults.{through}
use Rattle.mk_connect_pairs.proofs.connections.pair_made.Given as goal

abbrev pub invariant-loop-pair : goal.invariant-loop-pair
invariant-loop-pair l = through (connected l.study.sims.now l.study.models.now l.study.entities.now l.block l.ends) l.fn.made (take l.pair-index l.pair-items) ≡ Ok l.made
