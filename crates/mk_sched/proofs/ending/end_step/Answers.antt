-- Answers to the goals of `ending::end_step` that the prover leaves.
use Rattle.std.proofs.Common.{◌∙◌, ◌++◌, ◌∷◌, [], Option, Ok, refl, sym, ap, subst}
use Rattle.mk_plan.specs.declared.Entry.TheVariants.{Got}
use Rattle.mk_plan.specs.Journals.{view}
use Rattle.mk_plan.specs.Acts.{content_of}
use Rattle.mk_sched_agenda.specs.declared.outlets.Beyond.{Beyond}
use Rattle.mk_sched_agenda.specs.Endings.{EndOf}
use Rattle.mk_sched.specs.declared.faults.CoreFault.{CoreFault}
use Rattle.mk_sched.specs.declared.faults.Taken.TheVariants as taken
use Rattle.mk_sched.specs.inner.Derived.{HasTaken}
use Rattle.mk_sched.proofs.ending.end_step.Goals as goal
use Rattle.mk_sched.proofs.Arrived.{its, got_may, few_entries}
use Rattle.mk_sched.proofs.TurnEnds.{given_all, given_none, ends_step, step_outputs, step_made, step_next, last, taken_limit, taken_ended}

pub end_turn-requires-clause-given : goal.end_turn-requires-clause-given
end_turn-requires-clause-given c =
    let P = c.args.plan.now in
    let J = c.args.journal.now.entries in
    let K = c.args.derived.now in
    let m = c.args.message.now in
    let judged = c.requires.ends.judged in
    let ends = ends_step P J K c.args.sim m c.requires.taking judged.turn judged.right c.args.at c.requires.ends in
    given_all P J K c.args.sim m c.requires.taking judged.turn judged.right [] (given_none P J K c.args.sim m c.requires.taking judged.turn judged.right ends.1)

pub returns-in-Some-clause-leaves : goal.returns-in-Some-clause-leaves
returns-in-Some-clause-leaves c =
    let P = c.args.plan.now in
    let J = c.args.journal.now.entries in
    let K = c.args.derived.now in
    let s = c.args.sim in
    let m = c.args.message.now in
    let taking = c.requires.taking in
    let judged = c.requires.ends.judged in
    let T = judged.turn in
    let right = judged.right in
    let now = its P J K s m taking in
    let ends = ends_step P J K s m taking T right c.args.at c.requires.ends in
    let is = ap content_of ends.0.message in
    let law = c.ends_of_turns.ensures.stepped P (view P J) _ K.sims s.0 T c.args.at c.requires.ends.id c.requires.ends.asks m ends.0.content now.sims taking.there right.opened judged.same is in
    let end = c.in_ok-ended.ensures.ends P J T m (last P J K s m taking T right c.args.at _ [] (step_made P J K s m taking T right c.args.at ends.0.content is law) (c.next_in.ensures ∙ step_next P J K s m taking T right c.args.at ends.0.content is law) (given_none P J K s m taking T right ends.1)) now.agenda in
    let limit = subst (λ (o : Option Beyond). EndOf P J s T m K.agenda o c.end_turn.new.self) c.in-Some.is end in
    subst (λ (f : CoreFault). HasTaken P J s m (Ok (taken.Fault f)) (record { sims = K.sims; agenda = c.end_turn.new.self; stock = K.stock; untold = c.end_turn.new.noted }) (J ++ Got s m ∷ [])) (sym c.limit_by.ensures)
    (taken_limit P J K s m taking T right c.in-Some.beyond limit.0 (record { sims = K.sims; agenda = c.end_turn.new.self; stock = K.stock; untold = c.end_turn.new.noted }) (J ++ Got s m ∷ []) refl)

pub returns-in-None-clause-leaves : goal.returns-in-None-clause-leaves
returns-in-None-clause-leaves c =
    let P = c.args.plan.now in
    let J = c.args.journal.now.entries in
    let K = c.args.derived.now in
    let s = c.args.sim in
    let m = c.args.message.now in
    let taking = c.requires.taking in
    let judged = c.requires.ends.judged in
    let T = judged.turn in
    let right = judged.right in
    let now = its P J K s m taking in
    let ends = ends_step P J K s m taking T right c.args.at c.requires.ends in
    let is = ap content_of ends.0.message in
    let law = c.ends_of_turns.ensures.stepped P (view P J) _ K.sims s.0 T c.args.at c.requires.ends.id c.requires.ends.asks m ends.0.content now.sims taking.there right.opened judged.same is in
    let end = c.in_ok-ended.ensures.ends P J T m (last P J K s m taking T right c.args.at _ [] (step_made P J K s m taking T right c.args.at ends.0.content is law) (c.next_in.ensures ∙ step_next P J K s m taking T right c.args.at ends.0.content is law) (given_none P J K s m taking T right ends.1)) now.agenda in
    let fine = subst (λ (o : Option Beyond). EndOf P J s T m K.agenda o c.end_turn.new.self) c.in-None.is end in
    taken_ended P J K s m taking T right fine.0 (record { sims = c.end.new.self; agenda = c.end_turn.new.self; stock = K.stock; untold = c.end_turn.new.noted }) (J ++ Got s m ∷ []) refl
    (c.end.ensures.sims P (view P J) _ m T (few_entries P J K _ taking.derived) now.sims right)
    fine.1
    (c.stock_stays.ensures.ended P J K.stock s m T (got_may P J K s m taking) right (step_outputs P J K s m taking T right c.args.at ends.0.content is law) now.stock)
