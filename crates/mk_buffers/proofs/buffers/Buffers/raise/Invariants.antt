-- The invariants and measures of the loops of `buffers::Buffers::raise`.
use Rattle.mk_buffers.specs.Standing.{IsSwept}
use Rattle.mk_buffers.specs.inner.Standing.{HasThinned}
use Rattle.mk_buffers.proofs.buffers.Buffers.raise.Given as goal

abbrev pub invariant-loop-sim : goal.invariant-loop-sim
invariant-loop-sim l = HasThinned l.mark l.initial.self l.self × (IsSwept l.mark 0 l.initial.self → IsSwept l.mark l.sim l.self)
