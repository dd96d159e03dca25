-- Answers to the goals of `tree::Tree::new` that the prover leaves.
use Rattle.std.proofs.Common.{◌≡◌, ◌*◌, None, ap, drop, replicate, rules, ◌∙◌}
use Rattle.mk_pace_held.proofs.Minima.{none_leaves}
use Rattle.mk_pace_held.proofs.tree.Tree.new.Goals as goal

pub returns : goal.returns
returns c =
    let are : c.in_ok-nodes.nodes.items ≡ replicate (2 * c.args.leaves) None = search rules in
    ap (drop c.args.leaves) are ∙ none_leaves c.args.leaves
