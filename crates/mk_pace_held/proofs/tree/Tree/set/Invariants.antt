-- The invariants and measures of the loops of `tree::Tree::set`.
use Rattle.mk_pace_held.proofs.Minima.{IsRising}
use Rattle.mk_pace_held.proofs.tree.Tree.set.Given as goal

abbrev pub invariant-loop-at : goal.invariant-loop-at
invariant-loop-at l = IsRising l.at l.leaf l.self-inside.leaves l.fn.first l.fn.self l.self-inside.nodes.items

abbrev pub decreases-loop-at : goal.decreases-loop-at
decreases-loop-at l = l.at
