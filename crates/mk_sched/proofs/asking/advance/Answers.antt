-- Answers to the goals of `asking::advance` that the prover leaves.
use Rattle.std.proofs.Common.{◌∙◌, ◌<◌, ℕ, Ok, ap, refl, subst, sym}
use Rattle.std.proofs.lemmas.Bool.{eqb-true}
use Rattle.mk_base.proofs.Lists.{none_some}
use Rattle.mk_plan.specs.Journals.{view}
use Rattle.mk_sched_supply.specs.declared.stock.Stock.{Stock}
use Rattle.mk_sched.specs.declared.faults.CoreFault.{CoreFault}
use Rattle.mk_sched.specs.declared.faults.Next.TheVariants as next
use Rattle.mk_sched.specs.inner.Derived.{HasAdvanced}
use Rattle.mk_sched.proofs.asking.advance.Goals as goal
use Rattle.mk_sched.proofs.Standing.{not_same_number}
use Rattle.mk_sched.proofs.GivingUp.{told_on, whole_of}
use Rattle.mk_sched.proofs.Asked.{its, ready_low, next_asked, next_full, next_done}

pub give_up-requires-clause-whole : goal.give_up-requires-clause-whole
give_up-requires-clause-whole c =
    let P = c.args.plan.now in
    let J = c.args.journal.now.entries in
    let K = c.args.derived.now in
    let asked = c.in_ok-ask-in-Some.ensures.ok P c.requires.derived (not_same_number _ _ (sym c.is_full.ensures ∙ c.if-is_full.false)) (c.in-Some.ensures P (view P J) c.requires.derived.valid (its P J K c.requires.derived).agenda) in
    whole_of P c.ask.new.journal.entries c.ask.new.derived _ asked.0

pub returns-in_ok-ask-in-Some-clause-advanced : goal.returns-in_ok-ask-in-Some-clause-advanced
returns-in_ok-ask-in-Some-clause-advanced c =
    let P = c.args.plan.now in
    let J = c.args.journal.now.entries in
    let K = c.args.derived.now in
    let asked = c.in_ok-ask-in-Some.ensures.ok P c.requires.derived (not_same_number _ _ (sym c.is_full.ensures ∙ c.if-is_full.false)) (c.in-Some.ensures P (view P J) c.requires.derived.valid (its P J K c.requires.derived).agenda) in
    let given_up = c.give_up.ensures c.ask.new.journal.entries asked.0 (λ _. told_on P c.requires.derived.valid K c.ask.new.derived (its P J K c.requires.derived).agenda.plan.bounds (ap (λ (k : Stock). k.buffers.marks) c.ask.ensures.stock) c.in_ok-ask-in-Some.ensures.notes (c.requires.told refl)) in
    next_asked P J K c.requires.derived c.in-Some.ready.sim c.give_up.new.derived c.ask.new.journal.entries given_up.0 asked.1 given_up.1

pub returns-in_ok-ask-in-Some-clause-told : goal.returns-in_ok-ask-in-Some-clause-told
returns-in_ok-ask-in-Some-clause-told c =
    let P = c.args.plan.now in
    let J = c.args.journal.now.entries in
    let K = c.args.derived.now in
    let asked = c.in_ok-ask-in-Some.ensures.ok P c.requires.derived (not_same_number _ _ (sym c.is_full.ensures ∙ c.if-is_full.false)) (c.in-Some.ensures P (view P J) c.requires.derived.valid (its P J K c.requires.derived).agenda) in
    let given_up = c.give_up.ensures c.ask.new.journal.entries asked.0 (λ _. told_on P c.requires.derived.valid K c.ask.new.derived (its P J K c.requires.derived).agenda.plan.bounds (ap (λ (k : Stock). k.buffers.marks) c.ask.ensures.stock) c.in_ok-ask-in-Some.ensures.notes (c.requires.told refl)) in
    given_up.2

pub returns-else-is_any_open-clause-advanced : goal.returns-else-is_any_open-clause-advanced
returns-else-is_any_open-clause-advanced c =
    let P = c.args.plan.now in
    let J = c.args.journal.now.entries in
    let K = c.args.derived.now in
    let now = its P J K c.requires.derived in
    next_done P J K c.requires.derived c.requires.given_up (c.in-None.ensures P (view P J) c.requires.derived.valid now.agenda) (c.is_any_open.ensures.none c.if-is_any_open.false P (view P J) now.agenda)

pub ask-requires-clause-sims : goal.ask-requires-clause-sims
ask-requires-clause-sims c =
    let P = c.args.plan.now in
    let J = c.args.journal.now.entries in
    let K = c.args.derived.now in
    let now = its P J K c.requires.derived in
    let first = c.in-Some.ensures P (view P J) c.requires.derived.valid now.agenda in
    subst (λ (n : ℕ). c.in-Some.ready.sim.0 < n) (sym now.sims.count) (ready_low P J K c.requires.derived c.in-Some.ready.sim.0 c.in-Some.ready.at first.0)

pub ask-requires-clause-queues : goal.ask-requires-clause-queues
ask-requires-clause-queues c =
    let P = c.args.plan.now in
    let J = c.args.journal.now.entries in
    let K = c.args.derived.now in
    let now = its P J K c.requires.derived in
    let first = c.in-Some.ensures P (view P J) c.requires.derived.valid now.agenda in
    subst (λ (n : ℕ). c.in-Some.ready.sim.0 < n) (sym now.agenda.plan.count) (ready_low P J K c.requires.derived c.in-Some.ready.sim.0 c.in-Some.ready.at first.0)

pub give_up-requires-clause-valid : goal.give_up-requires-clause-valid
give_up-requires-clause-valid c =
    c.requires.derived.valid

pub returns-then-is_full-clause-advanced : goal.returns-then-is_full-clause-advanced
returns-then-is_full-clause-advanced c =
    let P = c.args.plan.now in
    let J = c.args.journal.now.entries in
    let K = c.args.derived.now in
    let now = its P J K c.requires.derived in
    let first = c.in-Some.ensures P (view P J) c.requires.derived.valid now.agenda in
    subst (λ (f : CoreFault). HasAdvanced P J (Ok (next.Fault f)) K J) (sym c.too_long.ensures) (next_full P J K c.requires.derived c.in-Some.ready.sim.0 c.in-Some.ready.at first.0 (eqb-true _ _ (sym c.is_full.ensures ∙ c.if-is_full.true)))

pub returns-then-is_full-clause-told : goal.returns-then-is_full-clause-told
returns-then-is_full-clause-told c =
    λ going. absurd (none_some (sym going))

pub returns-then-is_any_open-clause-told : goal.returns-then-is_any_open-clause-told
returns-then-is_any_open-clause-told c =
    c.requires.told

pub returns-else-is_any_open-clause-told : goal.returns-else-is_any_open-clause-told
returns-else-is_any_open-clause-told c =
    c.requires.told
