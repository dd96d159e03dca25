-- The invariants and measures of the loops of `known::is_among`.
use Rattle.std.proofs.Common.{◌≡◌, drop, map}
use Rattle.mk_scenario_keys.proofs.known.is_among.Given as goal
use Rattle.mk_base.specs.Lists.{is_among}

abbrev pub invariant-loop-key : goal.invariant-loop-key
invariant-loop-key l = is_among (map (λ key. key.now) (drop l.key-index l.keys)) l.fn.name ≡ is_among (map (λ key. key.now) l.keys) l.fn.name
