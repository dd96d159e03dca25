-- Answers to the goals of `same::same_all` that the prover leaves.
use Rattle.std.proofs.Common.{◌+◌, length, slice_get, get_or, ap, sym, ◌∙◌, arith}
use Rattle.mk_plan_same.proofs.Pairs.{next_same}
use Rattle.mk_plan_same.proofs.same.same_all.Goals as goal

pub loop-item-preserved : goal.loop-item-preserved
loop-item-preserved g c =
    let xs = c.args.items.now in
    let ys = c.args.others.now in
    let i = c.loop-item.item-index in
    let x = c.item-item.result in
    record {
      items = c.loop-item.invariant.items;
      long = c.loop-item.invariant.long;
      place = ap (λ n. n + 1) c.loop-item.invariant.place;
      same = next_same xs ys i x c.at.result.now (let e = ap length c.loop-item.invariant.items in omega arith) (c.item-item.is ∙ ap (λ l. get_or l i x) c.loop-item.invariant.items)
          (ap (slice_get ys) (sym c.loop-item.invariant.place) ∙ c.at.ensures) c.if-not-same.ensures c.loop-item.invariant.same;
    }
