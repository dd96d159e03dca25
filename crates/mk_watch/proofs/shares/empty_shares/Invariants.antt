-- The invariants and measures of the loops of `shares::empty_shares`.
use Rattle.std.proofs.Common.{[], map}
use Rattle.mk_watch.specs.inner.Shares.{AreShares}
use Rattle.mk_watch.proofs.shares.empty_shares.Given as goal

abbrev pub invariant-loop : goal.invariant-loop
invariant-loop l = AreShares l.counter [] (map (λ s. map (λ x. x.now) s.items) l.shares.items)
