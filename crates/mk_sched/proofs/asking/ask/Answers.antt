-- Answers to the goals of `asking::ask` that the prover leaves.
use Rattle.std.proofs.Common.{◌≡◌, ℤ, [], ◌∷◌, ◌++◌, sym, ap, ◌∙◌, subst, arith, w64, to_z, of_z}
use Rattle.std.proofs.lemmas.Int.{ints}
use Rattle.mk_plan.specs.declared.Entry.TheVariants.{Sent}
use Rattle.mk_plan.specs.declared.Item.TheVariants.{Step}
use Rattle.mk_plan.specs.Journals.{view}
use Rattle.mk_plan.specs.Deliveries.{supply}
use Rattle.mk_plan.specs.Inputs.{inputs}
use Rattle.mk_plan.specs.Ready.{last_step}
use Rattle.mk_tiers.specs.Noted.{HasNoted}
use Rattle.mk_sched_agenda.specs.Mirrors.{AgendaState, Mirrors}
use Rattle.mk_sched.proofs.Asked.{its, last_closed, ready_low, in_run, asked_may, asked}
use Rattle.mk_sched.proofs.asking.ask.Goals as goal

pub returns-clause-ok : goal.returns-clause-ok
returns-clause-ok c = λ P derived room first.
    let J = c.args.journal.now.entries in
    let K = c.args.derived.now in
    let s = c.args.ready.sim in
    let x = c.args.ready.at in
    let now = its P J K derived in
    let previous = c.last_step-previous.ensures P (view P J) now.agenda (ready_low P J K derived s.0 x first.0) in
    let given : c.in_ok-inputs.inputs ≡ inputs P (supply P (view P J).acts) s.0 c.last_step-previous.result x = c.in_ok-inputs.ensures P (view P J) now.stock first.0 (previous ∙ last_closed P J K derived s.0 x first.0) in
    let same : c.max_advance-max_advance.new.self ≡ K.agenda = c.max_advance-max_advance.ensures.same in
    let promise = c.max_advance-max_advance.ensures.advance P J derived.valid derived.orderly.0 now.no_fault first.0 now.agenda in
    let ins : c.in_ok-inputs.inputs ≡ inputs P (supply P (view P J).acts) s.0 (last_step (view P J) s.0) x = given ∙ ap (λ o. inputs P (supply P (view P J).acts) s.0 o x) previous in
    let fits : to_z w64 (of_z w64 c.max_advance-max_advance.result) ≡ c.max_advance-max_advance.result = omega (arith, ints) in
    asked P J K derived s x first c.in_ok-inputs.inputs ins c.max_advance-max_advance.result promise _ c.push.new.self room (c.in_ok-push.ensures.ok ∙ ap (λ (n : ℤ). J ++ Sent s (Step x c.in_ok-inputs.inputs n) ∷ []) fits)
    (c.begin.ensures.sims P (view P J) _ c.in_ok-inputs.inputs c.max_advance-max_advance.result now.sims first.0.closed (in_run P J K derived s.0 x first.0))
    (c.step.ensures.mirrors P (view P J) x c.in_ok-inputs.inputs c.max_advance-max_advance.result first.0 (subst (Mirrors P (view P J)) (sym same) now.agenda))
    (c.stock_stays.ensures.step P J K.stock s x c.in_ok-inputs.inputs c.max_advance-max_advance.result (asked_may P J K derived s x first c.in_ok-inputs.inputs ins c.max_advance-max_advance.result promise) now.stock)

pub returns-clause-notes : goal.returns-clause-notes
returns-clause-notes c = subst (λ (A : AgendaState). HasNoted A.bounds c.step.new.self.bounds c.args.derived.now.untold c.step.new.noted) c.max_advance-max_advance.ensures.same c.step.ensures.noted
