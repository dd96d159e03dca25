-- The invariants and measures of the loops of `wires::Wires::mark`.
use Rattle.std.proofs.Common.{◌≡◌, length, map, take}
use Rattle.mk_fakes.specs.Scripts.{is_awake}
use Rattle.mk_fakes.proofs.wires.Wires.mark.Given as goal

-- up to this place all are marked as they must be
abbrev pub invariant-loop-i : goal.invariant-loop-i
invariant-loop-i l = record {
  size : length l.ready ≡ length l.links;
  marked : take l.i l.ready ≡ map (is_awake l.self) (take l.i l.links);
}
