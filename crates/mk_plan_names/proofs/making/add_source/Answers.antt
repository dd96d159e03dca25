-- Answers to the goals of `making::add_source` that the prover leaves.
use Rattle.std.proofs.Common.{◌∙◌, sym, ap}
use Rattle.indexmap.specs.IndexSet.{contains_text}
use Rattle.mk_plan_names.proofs.Sources.{source_added, set_grown, set_kept}
use Rattle.mk_plan_names.proofs.making.add_source.Goals as goal

pub returns-in_ok-insert : goal.returns-in_ok-insert
returns-in_ok-insert c = source_added c.args.attrs.now.items c.args.conn.now c.index_mut-set.result.now _ c.insert.new.self c.requires c.index_mut-set.ensures.value
    (set_grown c.index_mut-set.result.now c.insert.new.self c.in_ok-from_str.field-0 c.args.conn.now.from_attr (c.in_ok-from_str.ensures.ok ∙ c.as_str-then-not-contains.ensures) c.in_ok-insert.ensures.updates)

pub returns-else-not-contains : goal.returns-else-not-contains
returns-else-not-contains c = source_added c.args.attrs.now.items c.args.conn.now c.index_mut-set.result.now _ c.index_mut-set.result.now c.requires c.index_mut-set.ensures.value
    (set_kept c.index_mut-set.result.now c.args.conn.now.from_attr (ap (contains_text c.index_mut-set.result.now) (sym c.as_str.ensures) ∙ sym c.contains.ensures ∙ c.if-not-contains.false))
