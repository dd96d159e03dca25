-- The answers of `put_rows`.
use Rattle.std.proofs.Common.{◌≡◌, ◌∙◌, ◌+◌, ◌<◌, ap, sym, arith, length, map, List, w64, to_z, of_z}
use Rattle.std.proofs.lemmas.Int.{ints}
use Rattle.std.proofs.lemmas.List.{length-map}
use Rattle.mk_plan.specs.declared.Item.{Item}
use Rattle.mk_base.proofs.AtPlaces.{map_item}
use Rattle.mk_watch.specs.Values.{with_number}
use Rattle.mk_watch.proofs.Gathering.{rows_more, rows_named, rows_same}
use Rattle.mk_watch.proofs.tables.put_rows.Goals as goal
use Rattle.mk_watch.proofs.tables.put_rows.Goals.{in-Some+in_ok-put_row, in_default}

pub loop-item-preserved : goal.loop-item-preserved
loop-item-preserved g c =
    let f = c.args.rule.now.fold in
    let eid = c.args.eid.now in
    let attr = c.args.attr.now in
    let xs : List Item = map (λ x. x.now) c.args.items.now in
    let k = c.loop-item.item-index in
    let before = c.args.out.now.items in
    let out = c.loop-item.out.items in
    let count = c.loop-item.count in
    let total = c.loop-item.total in
    let x = c.item-item.result.now in
    let low : k < length xs = let len = length-map c.args.items.now (λ x. x.now) in let here = c.loop-item-test.true in omega (arith, len, here) in
    let is = map_item (λ x. x.now) c.args.items.now k c.item-item.result c.loop-item-test.true c.item-item.is in
    elim c.match-row_of.branch [
      | in-Some+in_ok-put_row w ↦
          let v = w.in-Some.row.value in
          let kept : to_z w64 (of_z w64 v) ≡ v = omega (arith, ints) in
          rows_named f eid attr xs (k + 1) before w.put_row.new.out.items c.match-row_of.out.items (count + 1) c.match-row_of.count (with_number f total w.in-Some.row.value) c.match-row_of.total (ap (λ v. v.items) w.out-is) w.count-is (w.total-is ∙ w.with_number-total.ensures ∙ ap (with_number f total) kept)
          (rows_more f eid attr xs k before out count total x low is c.loop-item.invariant w.in-Some.row w.put_row.new.out.items (sym c.row_of.ensures ∙ w.in-Some.is) w.in_ok-put_row.ensures)
      | in_default w ↦
          rows_named f eid attr xs (k + 1) before out c.match-row_of.out.items count c.match-row_of.count total c.match-row_of.total (ap (λ v. v.items) w.out-is) w.count-is w.total-is
          (rows_same f eid attr xs k before out count total x low is c.loop-item.invariant (sym c.row_of.ensures ∙ w.in_default.is))
    ]
