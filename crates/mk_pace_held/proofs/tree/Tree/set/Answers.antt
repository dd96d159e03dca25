-- Answers to the goals of `tree::Tree::set` that the prover leaves.
use Rattle.std.proofs.Common.{◌≡◌, ◌+◌, ◌*◌, ◌/◌, ◌<◌, List, Option, None, ap, length, slice_set, subst, ◌∙◌, arith}
use Rattle.std.proofs.lemmas.List.{get_or_read}
use Rattle.mk_pace_held.specs.declared.held.First.{First}
use Rattle.mk_pace_held.specs.Firsts.{earlier_of}
use Rattle.mk_pace_held.specs.inner.Minima.{node_at}
use Rattle.mk_pace_held.proofs.Minima.{IsRising, leaf_count, rising_begins, rising_goes_on}
use Rattle.mk_pace_held.proofs.tree.Tree.set.Goals as goal

pub loop-at-init : goal.loop-at-init
loop-at-init c =
    let tree = c.self.inside in
    let below : c.args.leaf < tree.leaves = omega (arith, c.requires, ap length c.self.view_is, leaf_count tree.nodes.items tree.leaves c.self.invariant) in
    subst (λ (old : List (Option First)). IsRising (tree.leaves + c.args.leaf) c.args.leaf tree.leaves c.args.first old (slice_set tree.nodes.items (tree.leaves + c.args.leaf) c.args.first)) c.self.view_is
    (rising_begins tree.nodes.items c.args.leaf tree.leaves c.args.first c.self.invariant below)

pub loop-at-preserved : goal.loop-at-preserved
loop-at-preserved c =
    let nodes : List (Option First) = c.loop-at.self-inside.nodes.items in
    let rising = c.loop-at.invariant in
    let up = c.loop-at.at / 2 in
    let left : c.index.result.now ≡ node_at nodes (2 * up) = get_or_read nodes (2 * up) c.index.result.now (omega (arith, rising.high, rising.right.count)) c.index.ensures None in
    let right : c.index-in-loop-at.result.now ≡ node_at nodes (2 * up + 1) = get_or_read nodes (2 * up + 1) c.index-in-loop-at.result.now (omega (arith, rising.high, rising.right.count)) c.index-in-loop-at.ensures None in
    rising_goes_on nodes c.loop-at.at c.args.leaf c.loop-at.self-inside.leaves c.earlier_of.result c.args.first c.args.self.now rising c.loop-at-test.true (c.earlier_of.ensures ∙ (λ t. earlier_of (left t) (right t)))
