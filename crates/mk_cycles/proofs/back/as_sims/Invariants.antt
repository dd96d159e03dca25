-- The invariants and measures of the loops of `back::as_sims`.
use Rattle.std.proofs.Common.{◌≡◌, take}
use Rattle.mk_cycles.specs.Outcomes.{numbers}
use Rattle.mk_cycles.proofs.back.as_sims.Given as goal

abbrev pub invariant-loop-number : goal.invariant-loop-number
invariant-loop-number l = numbers l.sims ≡ take l.number-index l.numbered
