-- Answers to the goals of `entities::entities` that the prover leaves.
use Rattle.std.proofs.Common.{[], List, ℕ, ◌∙◌, subst}
use Rattle.mk_base.specs.declared.json.Json as tree
use Rattle.mk_message_plain.specs.inner.Members.{Closes}
use Rattle.mk_message_plain.proofs.Bytes.{if_both}
use Rattle.mk_message_plain.proofs.Members.{found_first, goes_on, closes, entity_begins, shorter}
use Rattle.mk_message_plain.proofs.entities.entities.Goals as goal

pub loop-name-init : goal.loop-name-init
loop-name-init c = found_first 1 c.args.text.now [] c.new-found.result c.new-found.ensures

pub whole-requires : goal.whole-requires
whole-requires c =
    let l = c.loop-name in
    let read = c.in-Ok-Some.read in
    let begins = entity_begins l.last.now l.rest.now c.in-Some.name.now c.in-Some.inner.now read.1.now c.in-Some-ending.after.now read.0 c.in-Some-ending.more c.in-Some.ensures.text (rw c.in-Ok-Some.field-0-is at c.in-Ok-Some.ensures) c.in-Some-ending.ensures c.in-Some.ensures.above c.in-Some.ensures.utf8 in
    (closes 1 c.args.text.now l.last.now l.rest.now c.in-Some.name.now c.in-Some-ending.after.now l.found c.put.new.found (tree.Object read.0) c.in-Some-ending.more c.if-not-more.true l.invariant begins c.in_ok-put.ensures).sorted

pub returns-then-not-more : goal.returns-then-not-more
returns-then-not-more c =
    let l = c.loop-name in
    let read = c.in-Ok-Some.read in
    let begins = entity_begins l.last.now l.rest.now c.in-Some.name.now c.in-Some.inner.now read.1.now c.in-Some-ending.after.now read.0 c.in-Some-ending.more c.in-Some.ensures.text (rw c.in-Ok-Some.field-0-is at c.in-Ok-Some.ensures) c.in-Some-ending.ensures c.in-Some.ensures.above c.in-Some.ensures.utf8 in
    if_both c.whole.result
    (λ ms same none. subst (λ (r : List ℕ). Closes 1 c.args.text.now ms r) none (closes 1 c.args.text.now l.last.now l.rest.now c.in-Some.name.now c.in-Some-ending.after.now l.found ms (tree.Object read.0) c.in-Some-ending.more c.if-not-more.true l.invariant begins (same ∙ c.in_ok-put.ensures)))
    c.whole.ensures.members c.whole.ensures.rest

pub loop-name-smaller : goal.loop-name-smaller
loop-name-smaller c =
    let l = c.loop-name in
    let read = c.in-Ok-Some.read in
    let begins = entity_begins l.last.now l.rest.now c.in-Some.name.now c.in-Some.inner.now read.1.now c.in-Some-ending.after.now read.0 c.in-Some-ending.more c.in-Some.ensures.text (rw c.in-Ok-Some.field-0-is at c.in-Ok-Some.ensures) c.in-Some-ending.ensures c.in-Some.ensures.above c.in-Some.ensures.utf8 in
    shorter 1 l.last.now l.rest.now c.in-Some.name.now c.in-Some-ending.after.now (tree.Object read.0) c.in-Some-ending.more begins

pub loop-name-preserved : goal.loop-name-preserved
loop-name-preserved c =
    let l = c.loop-name in
    let read = c.in-Ok-Some.read in
    let begins = entity_begins l.last.now l.rest.now c.in-Some.name.now c.in-Some.inner.now read.1.now c.in-Some-ending.after.now read.0 c.in-Some-ending.more c.in-Some.ensures.text (rw c.in-Ok-Some.field-0-is at c.in-Ok-Some.ensures) c.in-Some-ending.ensures c.in-Some.ensures.above c.in-Some.ensures.utf8 in
    goes_on 1 c.args.text.now l.last.now l.rest.now c.in-Some.name.now c.in-Some-ending.after.now l.found c.put.new.found (tree.Object read.0) c.in-Some-ending.more c.if-not-more.false l.invariant begins c.in_ok-put.ensures
