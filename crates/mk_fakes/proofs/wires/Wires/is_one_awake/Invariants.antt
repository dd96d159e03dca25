-- The invariants and measures of the loops of `wires::Wires::is_one_awake`.
use Rattle.std.proofs.Common.{◌≡◌, drop}
use Rattle.std.specs.List.{list_any}
use Rattle.mk_fakes.specs.Scripts.{is_awake}
use Rattle.mk_fakes.proofs.wires.Wires.is_one_awake.Given as goal

-- before this place none is awake
abbrev pub invariant-loop-i : goal.invariant-loop-i
invariant-loop-i l = list_any (is_awake l.self) l.links ≡ list_any (is_awake l.self) (drop l.i l.links)
