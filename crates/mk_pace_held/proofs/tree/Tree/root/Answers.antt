-- Answers to the goals of `tree::Tree::root` that the prover leaves.
use Rattle.std.proofs.Common.{None, subst, arith}
use Rattle.std.proofs.lemmas.List.{get_or_read}
use Rattle.mk_pace_held.specs.inner.Minima.{IsLeast}
use Rattle.mk_pace_held.proofs.Minima.{root_is_least}
use Rattle.mk_pace_held.proofs.tree.Tree.root.Goals as goal

pub returns : goal.returns
returns c = subst (IsLeast c.index.result.now) c.self.view_is (root_is_least c.self.inside.nodes.items c.self.inside.leaves c.self.invariant c.index.result.now (omega (arith, c.if-self-eq0.false)) (get_or_read c.self.inside.nodes.items 1 c.index.result.now (omega (arith, c.if-self-eq0.false, c.self.invariant.count)) c.index.ensures None))
