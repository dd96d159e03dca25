-- Answers to the goals of `entities::attributes` that the prover leaves.
use Rattle.std.proofs.Common.{[], ◌∙◌}
use Rattle.mk_base.specs.declared.json.Json as tree
use Rattle.mk_message_plain.proofs.Members.{found_first, goes_on, closes, put_same}
use Rattle.mk_message_plain.proofs.entities.attributes.Goals as goal

pub loop-name-init : goal.loop-name-init
loop-name-init c = found_first 0 c.args.text.now [] c.new-found.result c.new-found.ensures

pub in_order-requires : goal.in_order-requires
in_order-requires c =
    let l = c.loop-name in
    (closes 0 c.args.text.now l.last.now l.rest.now c.in-Some.name.now c.in-Some.after.now l.found c.put.new.found (tree.Whole c.in-Some.value) c.in-Some.more c.if-not-more.true l.invariant c.in-Some.ensures (put_same l.last.now l.rest.now c.in-Some.name.now c.in-Some.after.now l.found c.put.new.found c.in-Some.value c.in-Some.more c.in-Some.ensures c.in_ok-put.ensures)).sorted

pub returns-then-not-more : goal.returns-then-not-more
returns-then-not-more c =
    let l = c.loop-name in
    closes 0 c.args.text.now l.last.now l.rest.now c.in-Some.name.now c.in-Some.after.now l.found c.in_order.result (tree.Whole c.in-Some.value) c.in-Some.more c.if-not-more.true l.invariant c.in-Some.ensures (c.in_order.ensures ∙ put_same l.last.now l.rest.now c.in-Some.name.now c.in-Some.after.now l.found c.put.new.found c.in-Some.value c.in-Some.more c.in-Some.ensures c.in_ok-put.ensures)

pub loop-name-preserved : goal.loop-name-preserved
loop-name-preserved c =
    let l = c.loop-name in
    goes_on 0 c.args.text.now l.last.now l.rest.now c.in-Some.name.now c.in-Some.after.now l.found c.put.new.found (tree.Whole c.in-Some.value) c.in-Some.more c.if-not-more.false l.invariant c.in-Some.ensures (put_same l.last.now l.rest.now c.in-Some.name.now c.in-Some.after.now l.found c.put.new.found c.in-Some.value c.in-Some.more c.in-Some.ensures c.in_ok-put.ensures)
