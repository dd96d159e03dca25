-- The invariants and measures of the loops of `lines::put_cycle`.
use Rattle.std.proofs.Common.{◌≡◌, ◌∷◌, ◌++◌, take}
use Rattle.std.specs.Prelude.{codes, flat_map}
use Rattle.mosaikrun_endings.proofs.lines.put_cycle.Given as goal

abbrev pub invariant-loop-sim : goal.invariant-loop-sim
invariant-loop-sim l = l.out.items ≡ codes "connect 8: cycle" ++ flat_map (λ id. 32 ∷ id) (take l.sim-index l.sim-items)
