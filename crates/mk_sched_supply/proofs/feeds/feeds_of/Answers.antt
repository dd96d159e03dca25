-- Answers to the goals of `feeds::feeds_of` that the prover leaves.
use Rattle.std.proofs.Common.{◌≡◌, ℕ, length, subst, ap, arith}
use Rattle.mk_sched_supply.specs.inner.Making.{AreFeedsOf}
use Rattle.mk_sched_supply.proofs.Feeding.{feeds_none}
use Rattle.mk_sched_supply.proofs.feeds.feeds_of.Goals as goal

pub loop-place-init : goal.loop-place-init
loop-place-init c = (c.as_slice-conn-items.ensures, feeds_none c.args.plan.now c.in_ok-feeds.feeds.items c.in_ok-feeds.ensures)

pub loop-place-preserved : goal.loop-place-preserved
loop-place-preserved c = (c.as_slice-conn-items.ensures, c.in_ok-add_conn.ensures)

pub returns : goal.returns
returns c =
    let count : length c.as_slice-conn-items.result.now ≡ length c.args.plan.now.conns = ap length c.as_slice-conn-items.ensures in
    let all : c.loop-place.place ≡ length c.args.plan.now.conns = omega arith in
    subst (λ (k : ℕ). AreFeedsOf c.args.plan.now k c.loop-place.feeds.items) all c.loop-place.invariant.1
