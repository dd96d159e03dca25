-- Answers to the goals of `beginning::event_queue` that the prover leaves.
use Rattle.std.proofs.Common.{◌≡◌, ◌<◌, ℤ, List, [], length, map, fold, get_or, slice_get, Some, pos, ap, sym, ◌∙◌, arith}
use Rattle.mk_base.specs.Tiers.{moment}
use Rattle.mk_nextstep.specs.declared.queue.Due.{Due}
use Rattle.mk_sched_agenda.specs.inner.Dues.{with_own}
use Rattle.mk_sched_agenda.proofs.Begins.{fold_more}
use Rattle.mk_sched_agenda.proofs.beginning.event_queue.Goals as goal
use Rattle.mk_base.proofs.Items.{get_default, take_whole}

pub loop-time-preserved : goal.loop-time-preserved
loop-time-preserved c =
    let xs = c.args.sim.now.initial in
    let k = c.loop-time.time-index in
    let low : k < length xs = omega (arith, c.loop-time-test.true, ap length c.as_slice-time-items.ensures) in
    let e : ℤ = get_or c.as_slice-time-items.result.now k (pos 0) in
    let there : slice_get xs k ≡ Some e = get_default xs k (pos 0) low ∙ ap (λ (l : List ℤ). Some (get_or l k (pos 0))) (sym c.as_slice-time-items.ensures) in (
      c.as_slice-time-items.ensures,
      c.in_ok-add_event.ensures ∙ ap (λ (q : List Due). with_own c.args.limits.now q (moment e)) c.loop-time.invariant.1 ∙ sym (fold_more (with_own c.args.limits.now) [] moment xs k e there),
    )

pub returns : goal.returns
returns c = c.loop-time.invariant.1 ∙ ap (λ (l : List ℤ). fold (with_own c.args.limits.now) [] (map moment l)) (take_whole c.args.sim.now.initial c.loop-time.time-index (omega (arith, c.loop-time-test.false, ap length c.as_slice-time-items.ensures)))
