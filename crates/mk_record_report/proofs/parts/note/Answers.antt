-- Answers to the goals of `parts::note` that the prover leaves.
use Rattle.std.proofs.Common.{◌∷◌, [], ◌++◌, ◌<◌, ◌≤◌, subst, sym, ap, length, slice_set}
use Rattle.std.specs.Result.{OnOk}
use Rattle.mk_plan.specs.declared.Entry.{Entry}
use Rattle.mk_record_report.specs.inner.Parts.{AreParts}
use Rattle.mk_record_report.proofs.Parting.{put_if_ok, left_by_message, left_by_stranger}
use Rattle.mk_record_report.proofs.parts.note.Goals as goal
use Rattle.mk_base.proofs.Items.{get_at_place}

pub returns-then-place-as_slice : goal.returns-then-place-as_slice
returns-then-place-as_slice c count J are = subst (λ (e : Entry). OnOk c.add_item.result (AreParts count (J ++ e ∷ []) (slice_set c.args.parts.now.items c.in-Sent.sim.0 c.add_item.new.part))) (sym c.in-Sent.is)
    (put_if_ok c.add_item.result count J c.in-Sent.sim c.in-Sent.item c.args.parts.now.items c.index_mut.result.now c.add_item.new.part
    (get_at_place c.args.parts.now.items c.in-Sent.sim.0 c.index_mut.result.now (subst (λ n. c.in-Sent.sim.0 < n) (ap length c.as_slice.ensures.value) c.if-place-as_slice.true) c.index_mut.ensures.value) c.add_item.ensures.lines c.add_item.ensures.steps are)

pub returns-else-place-as_slice : goal.returns-else-place-as_slice
returns-else-place-as_slice c count J are = subst (λ (e : Entry). AreParts count (J ++ e ∷ []) c.args.parts.now.items) (sym c.in-Sent.is)
    (left_by_stranger count J c.in-Sent.sim c.in-Sent.item c.args.parts.now.items (subst (λ n. n ≤ c.in-Sent.sim.0) (ap length c.as_slice.ensures.value) c.if-place-as_slice.false) are)

pub returns-in-Got : goal.returns-in-Got
returns-in-Got c count J are = subst (λ (e : Entry). AreParts count (J ++ e ∷ []) c.args.parts.now.items) (sym c.in-Got.is) (left_by_message count J c.in-Got.field-0 c.in-Got.field-1 c.args.parts.now.items are)
