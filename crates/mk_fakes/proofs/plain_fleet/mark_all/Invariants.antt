-- The invariants and measures of the loops of `plain_fleet::mark_all`.
use Rattle.std.proofs.Common.{◌≡◌, length, map, take, true}
use Rattle.mk_fakes.proofs.plain_fleet.mark_all.Given as goal

-- up to this place all are marked
abbrev pub invariant-loop-i : goal.invariant-loop-i
invariant-loop-i l = record {
  size : length l.ready ≡ length l.links;
  marked : take l.i l.ready ≡ map (λ link. true) (take l.i l.links);
}
