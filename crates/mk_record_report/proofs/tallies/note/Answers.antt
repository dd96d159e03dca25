-- Answers to the goals of `tallies::note` that the prover leaves.
use Rattle.std.proofs.Common.{◌∷◌, [], ◌++◌, ◌<◌, ◌≤◌, subst, sym, ap, length, slice_set}
use Rattle.mk_plan.specs.declared.Entry.{Entry}
use Rattle.mk_record_report.specs.inner.Summary.{AreTallies}
use Rattle.mk_record_report.proofs.Tallying.{told_in, untold_by_message, untold_by_stranger}
use Rattle.mk_record_report.proofs.tallies.note.Goals as goal
use Rattle.mk_base.proofs.Items.{get_at_place}

pub returns-then-place-as_slice-clause-each : goal.returns-then-place-as_slice-clause-each
returns-then-place-as_slice-clause-each c count J are = subst (λ (e : Entry). AreTallies count (J ++ e ∷ []) (slice_set c.args.tallies.now.items c.in-Sent.sim.0 c.add_item.new.tally)) (sym c.in-Sent.is)
    (told_in count J c.in-Sent.sim c.in-Sent.item c.args.tallies.now.items c.index_mut.result.now c.add_item.new.tally
    (get_at_place c.args.tallies.now.items c.in-Sent.sim.0 c.index_mut.result.now (subst (λ n. c.in-Sent.sim.0 < n) (ap length c.as_slice.ensures.value) c.if-place-as_slice.true) c.index_mut.ensures.value) c.add_item.ensures.steps c.add_item.ensures.values are)

pub returns-else-place-as_slice-clause-each : goal.returns-else-place-as_slice-clause-each
returns-else-place-as_slice-clause-each c count J are = subst (λ (e : Entry). AreTallies count (J ++ e ∷ []) c.args.tallies.now.items) (sym c.in-Sent.is)
    (untold_by_stranger count J c.in-Sent.sim c.in-Sent.item c.args.tallies.now.items (subst (λ n. n ≤ c.in-Sent.sim.0) (ap length c.as_slice.ensures.value) c.if-place-as_slice.false) are)

pub returns-in-Got-clause-each : goal.returns-in-Got-clause-each
returns-in-Got-clause-each c count J are = subst (λ (e : Entry). AreTallies count (J ++ e ∷ []) c.args.tallies.now.items) (sym c.in-Got.is) (untold_by_message count J c.in-Got.field-0 c.in-Got.field-1 c.args.tallies.now.items are)
