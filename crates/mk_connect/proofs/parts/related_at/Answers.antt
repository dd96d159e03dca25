-- At a place below the count of lists there is one.
use Rattle.std.proofs.Common.{arith}
use Rattle.mk_connect.proofs.parts.related_at.Goals as goal

pub unreachable-requires : goal.unreachable-requires
unreachable-requires c = omega (arith, c.in-None.ensures.lookup.3, c.requires)
