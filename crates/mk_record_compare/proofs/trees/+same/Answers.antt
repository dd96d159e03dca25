-- Answers to the goals of `trees::+same` that the prover leaves.
use Rattle.std.proofs.Common.{◌≡◌, ◌+◌, length, slice_get, get_or, Some, ap, sym, ◌∙◌, arith}
use Rattle.std.specs.Map.{keys_of, values_of}
use Rattle.mk_plan_same.proofs.Pairs.{next_same}
use Rattle.mk_record_compare.proofs.Pairs.{member_is}
use Rattle.mk_record_compare.proofs.trees.+same.Goals as goal

pub same_items-loop-item-preserved : goal.same_items-loop-item-preserved
same_items-loop-item-preserved t c =
    let xs = c.args.items.now in
    let ys = c.args.others.now in
    let i = c.loop-item.item-index in
    let x = c.item-item.result in
    let same : x ≡ c.at.result.now = c.if-not-same_tree.ensures in
    record {
      items = c.loop-item.invariant.items;
      long = c.loop-item.invariant.long;
      place = ap (λ n. n + 1) c.loop-item.invariant.place;
      same = next_same xs ys i x c.at.result.now (let e = ap length c.loop-item.invariant.items in omega arith) (c.item-item.is ∙ ap (λ l. get_or l i x) c.loop-item.invariant.items)
          (ap (slice_get ys) (sym c.loop-item.invariant.place) ∙ c.at.ensures) same c.loop-item.invariant.same;
    }

pub same_members-loop-name-preserved : goal.same_members-loop-name-preserved
same_members-loop-name-preserved t c =
    let xs = c.args.members.now in
    let ys = c.args.others.now in
    let i = c.loop-name.name-index in
    let x = c.loop-name-item.result in
    let name : x.0 ≡ c.name_at.result.now = c.if-not-same.ensures in
    let value : x.1 ≡ c.value_at.result.now = c.if-not-same_tree.ensures in
    let entry : slice_get ys i ≡ Some (c.name_at.result.now, c.value_at.result.now) = member_is ys i c.name_at.result.now c.value_at.result.now (ap (slice_get (keys_of ys)) (sym c.loop-name.invariant.place) ∙ c.name_at.ensures)
    (ap (slice_get (values_of ys)) (sym c.loop-name.invariant.place) ∙ c.value_at.ensures) in
    record {
      entries = c.loop-name.invariant.entries;
      long = c.loop-name.invariant.long;
      place = ap (λ n. n + 1) c.loop-name.invariant.place;
      same = next_same xs ys i x (c.name_at.result.now, c.value_at.result.now) (let e = ap length c.loop-name.invariant.entries in omega arith) (c.loop-name-item.is ∙ ap (λ l. get_or l i x) c.loop-name.invariant.entries)
          entry (λ j. (name j, value j)) c.loop-name.invariant.same;
    }
