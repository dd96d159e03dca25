-- Answers to the goals of `taking::weigh` that the prover leaves.
use Rattle.std.proofs.Common.{◌∙◌, ◌++◌, ◌∷◌, [], Some, None, Ok, refl, sym, subst}
use Rattle.mk_plan.specs.declared.Entry.TheVariants.{Got}
use Rattle.mk_plan.specs.Journals.{view}
use Rattle.mk_sched.specs.declared.faults.CoreFault.{CoreFault}
use Rattle.mk_sched.specs.declared.faults.Taken.TheVariants as taken
use Rattle.mk_sched.specs.inner.Derived.{HasTaken}
use Rattle.mk_sched.proofs.Judged.{judge, id_low}
use Rattle.mk_sched.proofs.Arrived.{few_entries, taken_wrong}
use Rattle.mk_tiers.proofs.Noting.{noted_none}
use Rattle.mk_sched.proofs.taking.weigh.Goals as goal

pub next_place-requires-clause-right : goal.next_place-requires-clause-right
next_place-requires-clause-right c = (c.args.plan.now, c.args.sim.0, sym c.wrong.ensures ∙ c.in-None.is)

pub next_place-requires-clause-more : goal.next_place-requires-clause-more
next_place-requires-clause-more c =
    let P = c.args.plan.now in
    let J = c.args.journal.now.entries in
    id_low c.place-place.result (c.place-place.ensures.run P (view P J) _ (few_entries P J c.args.derived.now _ c.requires.taking.derived) (c.requires.taking.derived.current refl).sims)

pub go_on-requires-clause-judged : goal.go_on-requires-clause-judged
go_on-requires-clause-judged c =
    let P = c.args.plan.now in
    let J = c.args.journal.now.entries in
    let now = c.requires.taking.derived.current refl in
    judge P (view P J) c.args.sim c.args.message.now c.place-place.result (c.place-place.ensures.place P (view P J) _ now.sims) (c.place-place.ensures.run P (view P J) _ (few_entries P J c.args.derived.now _ c.requires.taking.derived) now.sims)
    (sym c.wrong.ensures ∙ c.in-None.is) (Some c.in-Some-next_place.next) (sym (c.next_place.ensures P c.args.sim.0 (c.wants-in-None.ensures P now.stock.plan)) ∙ c.in-Some-next_place.is)

pub end_turn-requires-clause-judged : goal.end_turn-requires-clause-judged
end_turn-requires-clause-judged c =
    let P = c.args.plan.now in
    let J = c.args.journal.now.entries in
    let now = c.requires.taking.derived.current refl in
    judge P (view P J) c.args.sim c.args.message.now c.place-place.result (c.place-place.ensures.place P (view P J) _ now.sims) (c.place-place.ensures.run P (view P J) _ (few_entries P J c.args.derived.now _ c.requires.taking.derived) now.sims)
    (sym c.wrong.ensures ∙ c.in-None.is) None (sym (c.next_place.ensures P c.args.sim.0 (c.wants-in-None.ensures P now.stock.plan)) ∙ c.in-None-next_place.is)

pub returns-in-Some-clause-leaves : goal.returns-in-Some-clause-leaves
returns-in-Some-clause-leaves c =
    let P = c.args.plan.now in
    let J = c.args.journal.now.entries in
    let K = c.args.derived.now in
    let s = c.args.sim in
    let m = c.args.message.now in
    let now = c.requires.taking.derived.current refl in
    subst (λ (f : CoreFault). HasTaken P J s m (Ok (taken.Fault f)) K (J ++ Got s m ∷ [])) (sym c.fault_by.ensures)
    (taken_wrong P J K s m c.requires.taking c.place-place.result c.in-Some.cause c.heard.result
    (c.place-place.ensures.place P (view P J) _ now.sims) (sym c.wrong.ensures ∙ c.in-Some.is) (c.heard.ensures P (view P J) _ now.sims) K (J ++ Got s m ∷ []) refl)

pub returns-in-Some-clause-notes : goal.returns-in-Some-clause-notes
returns-in-Some-clause-notes c = noted_none c.args.derived.now.agenda.bounds c.args.derived.now.untold
