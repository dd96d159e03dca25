-- The invariants and measures of the loops of `wires::next_of`.
use Rattle.std.proofs.Common.{◌≡◌, drop}
use Rattle.mk_fakes.specs.Scripts.{chunks_of}
use Rattle.mk_fakes.proofs.wires.next_of.Given as goal

-- before this place none of the link's chunks stands
abbrev pub invariant-loop-i : goal.invariant-loop-i
invariant-loop-i l = chunks_of l.link (drop l.from l.chunks) ≡ chunks_of l.link (drop l.i l.chunks)
