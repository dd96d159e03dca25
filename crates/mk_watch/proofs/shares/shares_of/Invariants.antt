-- The invariants and measures of the loops of `shares::shares_of`.
use Rattle.std.proofs.Common.{take, map}
use Rattle.mk_watch.specs.inner.Shares.{AreShares}
use Rattle.mk_watch.proofs.shares.shares_of.Given as goal

abbrev pub invariant-loop-entry : goal.invariant-loop-entry
invariant-loop-entry l = AreShares l.count (take l.entry-index l.entries) (map (λ s. map (λ x. x.now) s.items) l.shares.items)
