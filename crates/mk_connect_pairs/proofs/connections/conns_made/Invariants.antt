-- The invariants and measures of the loops of `connections::conns_made`.
use Rattle.std.proofs.Common.{◌≡◌, Ok, take, []}
use Rattle.mk_connect_pairs.specs.Connections.{block_made}
use Rattle.mk_connect_pairs.specs.Faults.{through}
use Rattle.mk_connect_pairs.proofs.connections.conns_made.Given as goal

abbrev pub invariant-loop-block : goal.invariant-loop-block
invariant-loop-block l = through (block_made l.study.sims.now l.study.models.now l.study.entities.now) [] (take l.block-index l.blocks) ≡ Ok l.made
