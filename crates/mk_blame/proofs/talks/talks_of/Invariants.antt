-- The invariants and measures of the loops of `talks::talks_of`.
use Rattle.std.proofs.Common.{take, map}
use Rattle.mk_blame.specs.inner.Parted.{AreTalks}
use Rattle.mk_blame.proofs.talks.talks_of.Given as goal

abbrev pub invariant-loop-entry : goal.invariant-loop-entry
invariant-loop-entry l = AreTalks l.count (take l.entry-index l.entries) (map (λ t. map (λ e. e.now) t.items) l.talks.items)
