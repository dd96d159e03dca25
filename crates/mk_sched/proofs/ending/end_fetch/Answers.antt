-- Answers to the goals of `ending::end_fetch` that the prover leaves.
use Rattle.std.proofs.Common.{◌∙◌, ◌++◌, ◌∷◌, [], Option, Ok, refl, sym, subst}
use Rattle.mk_plan.specs.declared.Entry.TheVariants.{Got}
use Rattle.mk_plan.specs.Journals.{view, ended_turn}
use Rattle.mk_sched_agenda.specs.declared.outlets.Beyond.{Beyond}
use Rattle.mk_sched_agenda.specs.Endings.{EndOf}
use Rattle.mk_sched.specs.declared.faults.CoreFault.{CoreFault}
use Rattle.mk_sched.specs.declared.faults.Taken.TheVariants as taken
use Rattle.mk_sched.specs.inner.Derived.{HasTaken}
use Rattle.mk_sched.proofs.ending.end_fetch.Goals as goal
use Rattle.mk_plan.specs.Turns.{wanted}
use Rattle.mk_plan_judge.proofs.Right.{right_output_time_fits}
use Rattle.mk_sched_agenda.specs.Endings.{CanBeMade}
use Rattle.mk_sched.proofs.Judged.{content_in_range, fetched_right, makeable}
use Rattle.mk_sched.proofs.Arrived.{its, got_may, few_entries}
use Rattle.mk_sched.proofs.TurnEnds.{given_all, next_not_negative, fetch_made, last, taken_limit, taken_ended}

pub made_at-made-requires : goal.made_at-made-requires
made_at-made-requires c =
    let P = c.args.plan.now in
    let V = view P c.args.journal.now.entries in
    let s = c.args.sim.0 in
    let right = fetched_right P V s c.args.message.now c.args.at c.args.content.now c.requires.ends c.requires.content in
    right_output_time_fits (wanted P s) c.args.at c.args.content.now right

pub end_turn-answer-requires-clause-made : goal.end_turn-answer-requires-clause-made
end_turn-answer-requires-clause-made c =
    let P = c.args.plan.now in
    let V = view P c.args.journal.now.entries in
    let s = c.args.sim.0 in
    let right = fetched_right P V s c.args.message.now c.args.at c.args.content.now c.requires.ends c.requires.content in
    subst CanBeMade (sym c.made_at-made.ensures) (makeable (wanted P s) c.args.at c.args.content.now c.requires.ends.judged.run.0 right)

pub take_outputs-taken-requires-clause-early : goal.take_outputs-taken-requires-clause-early
take_outputs-taken-requires-clause-early c =
    let P = c.args.plan.now in
    let V = view P c.args.journal.now.entries in
    let s = c.args.sim.0 in
    let right = fetched_right P V s c.args.message.now c.args.at c.args.content.now c.requires.ends c.requires.content in
    (subst CanBeMade (sym c.made_at-made.ensures) (makeable (wanted P s) c.args.at c.args.content.now c.requires.ends.judged.run.0 right)).early

pub take_outputs-taken-requires-clause-late : goal.take_outputs-taken-requires-clause-late
take_outputs-taken-requires-clause-late c =
    let P = c.args.plan.now in
    let V = view P c.args.journal.now.entries in
    let s = c.args.sim.0 in
    let right = fetched_right P V s c.args.message.now c.args.at c.args.content.now c.requires.ends c.requires.content in
    (subst CanBeMade (sym c.made_at-made.ensures) (makeable (wanted P s) c.args.at c.args.content.now c.requires.ends.judged.run.0 right)).late

pub take_outputs-taken-requires-clause-low : goal.take_outputs-taken-requires-clause-low
take_outputs-taken-requires-clause-low c =
    let P = c.args.plan.now in
    let V = view P c.args.journal.now.entries in
    let s = c.args.sim.0 in
    let right = fetched_right P V s c.args.message.now c.args.at c.args.content.now c.requires.ends c.requires.content in
    (subst CanBeMade (sym c.made_at-made.ensures) (makeable (wanted P s) c.args.at c.args.content.now c.requires.ends.judged.run.0 right)).low

pub take_outputs-taken-requires-clause-data : goal.take_outputs-taken-requires-clause-data
take_outputs-taken-requires-clause-data c =
    let P = c.args.plan.now in
    let V = view P c.args.journal.now.entries in
    let s = c.args.sim.0 in
    let right = fetched_right P V s c.args.message.now c.args.at c.args.content.now c.requires.ends c.requires.content in
    c.in_ok-outputs.ensures.data P c.args.at (its P c.args.journal.now.entries c.args.derived.now c.args.sim c.args.message.now c.requires.taking).stock.plan c.requires.taking.there (content_in_range c.args.message.now c.args.content.now c.requires.taking.form c.requires.content) right

pub end_turn-answer-requires-clause-next : goal.end_turn-answer-requires-clause-next
end_turn-answer-requires-clause-next c =
    let P = c.args.plan.now in
    let J = c.args.journal.now.entries in
    let K = c.args.derived.now in
    let s = c.args.sim in
    let m = c.args.message.now in
    let judged = c.requires.ends.judged in
    let now = its P J K s m c.requires.taking in
    next_not_negative P J K s m c.requires.taking judged.turn judged.right c.next-next.result (c.next-next.ensures P (view P J) _ judged.turn c.args.at c.requires.ends.id m now.sims judged.right.opened judged.same)

pub end_turn-answer-requires-clause-given : goal.end_turn-answer-requires-clause-given
end_turn-answer-requires-clause-given c =
    let P = c.args.plan.now in
    let J = c.args.journal.now.entries in
    let K = c.args.derived.now in
    let s = c.args.sim in
    let m = c.args.message.now in
    let taking = c.requires.taking in
    let judged = c.requires.ends.judged in
    let T = judged.turn in
    let right = judged.right in
    let now = its P J K s m taking in
    let law = c.ends_of_turns.ensures.fetched P (view P J) _ K.sims s.0 T c.args.at c.requires.ends.id m c.args.content.now now.sims taking.there right.opened judged.same c.requires.content in
    given_all P J K s m taking T right c.as_slice.result.now (c.as_slice.ensures.value ∙ (c.in_ok-outputs.ensures.outputs P now.stock.plan taking.there).given (ended_turn T m) law.0)

pub returns-in-Some-clause-leaves : goal.returns-in-Some-clause-leaves
returns-in-Some-clause-leaves c =
    let P = c.args.plan.now in
    let J = c.args.journal.now.entries in
    let K = c.args.derived.now in
    let s = c.args.sim in
    let m = c.args.message.now in
    let taking = c.requires.taking in
    let judged = c.requires.ends.judged in
    let T = judged.turn in
    let right = judged.right in
    let now = its P J K s m taking in
    let law = c.ends_of_turns.ensures.fetched P (view P J) _ K.sims s.0 T c.args.at c.requires.ends.id m c.args.content.now now.sims taking.there right.opened judged.same c.requires.content in
    let end = c.in-Ok.ensures.ends P J T m (last P J K s m taking T right _ _ _ (c.made_at-made.ensures ∙ fetch_made P J K s m taking T right c.args.at c.args.content.now law) (c.next-next.ensures P (view P J) _ T c.args.at c.requires.ends.id m now.sims right.opened judged.same)
    (c.as_slice.ensures.value ∙ (c.in_ok-outputs.ensures.outputs P now.stock.plan taking.there).given (ended_turn T m) law.0)) now.agenda in
    let limit = subst (λ (o : Option Beyond). EndOf P J s T m K.agenda o c.end_turn-answer.new.self) c.in-Some.is end in
    subst (λ (f : CoreFault). HasTaken P J s m (Ok (taken.Fault f)) (record { sims = K.sims; agenda = c.end_turn-answer.new.self; stock = K.stock; untold = c.end_turn-answer.new.noted }) (J ++ Got s m ∷ [])) (sym c.limit_by.ensures)
    (taken_limit P J K s m taking T right c.in-Some.beyond limit.0 (record { sims = K.sims; agenda = c.end_turn-answer.new.self; stock = K.stock; untold = c.end_turn-answer.new.noted }) (J ++ Got s m ∷ []) refl)

pub returns-in_ok-taken-in-None-clause-leaves : goal.returns-in_ok-taken-in-None-clause-leaves
returns-in_ok-taken-in-None-clause-leaves c =
    let P = c.args.plan.now in
    let J = c.args.journal.now.entries in
    let K = c.args.derived.now in
    let s = c.args.sim in
    let m = c.args.message.now in
    let taking = c.requires.taking in
    let judged = c.requires.ends.judged in
    let T = judged.turn in
    let right = judged.right in
    let now = its P J K s m taking in
    let law = c.ends_of_turns.ensures.fetched P (view P J) _ K.sims s.0 T c.args.at c.requires.ends.id m c.args.content.now now.sims taking.there right.opened judged.same c.requires.content in
    let made_is = c.made_at-made.ensures ∙ fetch_made P J K s m taking T right c.args.at c.args.content.now law in
    let outs = c.in_ok-outputs.ensures.outputs P now.stock.plan taking.there in
    let end = c.in-Ok.ensures.ends P J T m (last P J K s m taking T right _ _ _ made_is (c.next-next.ensures P (view P J) _ T c.args.at c.requires.ends.id m now.sims right.opened judged.same)
    (c.as_slice.ensures.value ∙ outs.given (ended_turn T m) law.0)) now.agenda in
    let fine = subst (λ (o : Option Beyond). EndOf P J s T m K.agenda o c.end_turn-answer.new.self) c.in-None.is end in
    taken_ended P J K s m taking T right fine.0 (record { sims = c.end.new.self; agenda = c.end_turn-answer.new.self; stock = c.take_outputs-taken.new.self; untold = c.end_turn-answer.new.noted }) (J ++ Got s m ∷ []) refl
    (c.end.ensures.sims P (view P J) _ m T (few_entries P J K _ taking.derived) now.sims right)
    fine.1
    (c.in_ok-taken-in-None.ensures.stock P J m T c.args.content.now (got_may P J K s m taking) right law.0 made_is outs now.stock)
