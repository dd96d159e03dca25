-- The invariants and measures of the loops of `talks::empty_talks`.
use Rattle.std.proofs.Common.{[], map}
use Rattle.mk_blame.specs.inner.Parted.{AreTalks}
use Rattle.mk_blame.proofs.talks.empty_talks.Given as goal

abbrev pub invariant-loop : goal.invariant-loop
invariant-loop l = AreTalks l.counter [] (map (λ t. map (λ e. e.now) t.items) l.talks.items)
