-- The invariants and measures of the loops of `outputs::given_of`.
use Rattle.std.proofs.Common.{◌≡◌, map, option_map, take}
use Rattle.mk_sched_supply.specs.inner.Making.{are_given}
use Rattle.mk_sched_supply.proofs.outputs.given_of.Given as goal

abbrev pub invariant-loop-place : goal.invariant-loop-place
invariant-loop-place l = l.given.items ≡ are_given (map (option_map (λ v. v.now)) l.values) (take l.place-index l.places)
