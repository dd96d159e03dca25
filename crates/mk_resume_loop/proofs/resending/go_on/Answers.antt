-- Answers to the goals of `resending::go_on` that the prover leaves.
use Rattle.std.proofs.Common.{◌+◌, List, Some, Result, Err, slice_get, refl, sym, ap, ◌∙◌, subst, arith}
use Rattle.std.proofs.lemmas.Result.{err_from_is_err_and}
use Rattle.mk_plan.specs.declared.Entry.{Entry}
use Rattle.mk_resume_walk.specs.Walks.{IsFirstOwn}
use Rattle.mk_run_crew.specs.Seen.{CrewSeen}
use Rattle.mk_run.specs.declared.outcome.Outcome.{Outcome}
use Rattle.mk_run.specs.Outcomes.{outcome_of}
use Rattle.mk_resume_loop.specs.declared.ending.ResumeEnd.{ResumeEnd}
use Rattle.mk_resume_loop.specs.declared.ending.ResumeEnd.TheVariants as ends
use Rattle.mk_resume_loop.specs.inner.Standings.{standing_at}
use Rattle.mk_resume_loop.specs.inner.Turns.{PassesAs}
use Rattle.mk_resume_loop.proofs.Bounds.{gone_low, id_low}
use Rattle.mk_resume_loop.proofs.Passed.{passes_for_memory, passes_not, passes_quietly, passes_sent}
use Rattle.mk_resume_loop.proofs.Resent.{grown, place_there, set_others, set_sized, set_stands, sim_indexed, sim_there}
use Rattle.mk_resume_loop.proofs.Walking.{due_linked, due_replied}
use Rattle.mk_resume_loop.proofs.resending.go_on.Goals as goal

pub returns-in_err-grow-clause-passed : goal.returns-in_err-grow-clause-passed
returns-in_err-grow-clause-passed g c =
    let e = err_from_is_err_and c.from_residual.result c.from_residual.ensures.1 in
    subst (λ (r : Result (Unit {0}) ResumeEnd). PassesAs r c.args.core.now c.args.sim.0 c.args.gone c.args.id c.args.crew.now c.args.crew.now c.grow.new.self) (sym (e.1 ∙ ap (λ (end : ResumeEnd). Err end) e.2))
    (passes_for_memory c.args.core.now c.args.crew.now c.args.sim c.args.gone c.args.id c.requires.there c.grow.new.self)

pub next-next-requires : goal.next-next-requires
next-next-requires g c =
    let h = grown c.args.core.now c.args.behind.now c.grow.new.self c.requires.sized c.as_slice-entries.result.now (c.as_slice-entries.ensures ∙ c.journal.ensures.same) c.in_ok-grow.ensures.sims c.in_ok-grow.ensures.own c.in_ok-grow.ensures.grown in
    sim_indexed c.args.core.now c.args.behind.now c.grow.new.self c.requires.sized h c.args.sim.0 c.requires.there

pub item_at-requires : goal.item_at-requires
item_at-requires g c =
    let same = c.as_slice-entries.ensures ∙ c.journal.ensures.same in
    let h = grown c.args.core.now c.args.behind.now c.grow.new.self c.requires.sized c.as_slice-entries.result.now same c.in_ok-grow.ensures.sims c.in_ok-grow.ensures.own c.in_ok-grow.ensures.grown in
    place_there c.args.core.now c.args.crew.now c.args.sim.0 c.args.gone c.args.id c.as_slice-entries.result.now c.next-next.result same c.requires.due.0 c.requires.due.1
    (λ from counted. c.next-next.ensures c.args.core.now.entries from h.indexed counted)

pub standing_at-requires : goal.standing_at-requires
standing_at-requires g c = let few = gone_low c.requires.due.0 c.args.core.now c.args.crew.now c.args.sim.0 c.args.gone c.args.id c.requires.due.1 in omega (arith, few)

pub set-requires : goal.set-requires
set-requires g c =
    let h = grown c.args.core.now c.args.behind.now c.grow.new.self c.requires.sized c.as_slice-entries.result.now (c.as_slice-entries.ensures ∙ c.journal.ensures.same) c.in_ok-grow.ensures.sims c.in_ok-grow.ensures.own c.in_ok-grow.ensures.grown in
    sim_there c.args.core.now c.args.behind.now c.grow.new.self c.requires.sized h c.args.sim.0 c.requires.there

pub returns-in-None-clause-passed : goal.returns-in-None-clause-passed
returns-in-None-clause-passed g c =
    let same = c.as_slice-entries.ensures ∙ c.journal.ensures.same in
    let h = grown c.args.core.now c.args.behind.now c.grow.new.self c.requires.sized c.as_slice-entries.result.now same c.in_ok-grow.ensures.sims c.in_ok-grow.ensures.own c.in_ok-grow.ensures.grown in
    passes_quietly c.args.core.now c.args.crew.now c.args.sim c.args.gone c.args.id c.requires.there c.next-next.result c.set.new.self
    (λ from counted. c.next-next.ensures c.args.core.now.entries from h.indexed counted)
    (λ p is. let t = c.in-None.ensures.none refl p is in (t.0, t.1, ap (λ (l : List Entry). slice_get l p) (sym same) ∙ t.2))
    (set_stands c.args.core.now c.args.behind.now c.grow.new.self c.requires.sized h c.set.new.self c.args.sim.0 c.standing_at.result c.set.ensures.sims c.set.ensures.index c.requires.there ∙ ap Some c.standing_at.ensures)

pub returns-in-None-clause-sized : goal.returns-in-None-clause-sized
returns-in-None-clause-sized g c =
    let h = grown c.args.core.now c.args.behind.now c.grow.new.self c.requires.sized c.as_slice-entries.result.now (c.as_slice-entries.ensures ∙ c.journal.ensures.same) c.in_ok-grow.ensures.sims c.in_ok-grow.ensures.own c.in_ok-grow.ensures.grown in
    set_sized c.args.core.now c.args.behind.now c.grow.new.self c.requires.sized h c.set.new.self c.args.sim.0 c.standing_at.result c.set.ensures.sims c.set.ensures.index

pub returns-in-None-clause-others : goal.returns-in-None-clause-others
returns-in-None-clause-others g c =
    let h = grown c.args.core.now c.args.behind.now c.grow.new.self c.requires.sized c.as_slice-entries.result.now (c.as_slice-entries.ensures ∙ c.journal.ensures.same) c.in_ok-grow.ensures.sims c.in_ok-grow.ensures.own c.in_ok-grow.ensures.grown in
    set_others c.args.core.now c.args.behind.now c.grow.new.self c.requires.sized h c.set.new.self c.args.sim.0 c.standing_at.result c.set.ensures.sims c.set.ensures.index

pub send-requires-clause-replied : goal.send-requires-clause-replied
send-requires-clause-replied g c =
    let same = c.as_slice-entries.ensures ∙ c.journal.ensures.same in
    let h = grown c.args.core.now c.args.behind.now c.grow.new.self c.requires.sized c.as_slice-entries.result.now same c.in_ok-grow.ensures.sims c.in_ok-grow.ensures.own c.in_ok-grow.ensures.grown in
    let t = c.in-Some.ensures.item in
    let R = c.requires.due.0 in
    let d = c.requires.due.1 in
    due_replied R c.args.core.now c.args.crew.now c.args.sim c.args.gone c.args.id c.requires.there d t.0 t.1 c.in-Some.item.now
    (subst (IsFirstOwn c.args.core.now.entries c.args.sim.0 R.from) t.2 (c.next-next.ensures c.args.core.now.entries R.from h.indexed d.counted))
    (ap (λ (l : List Entry). slice_get l t.0) (sym same) ∙ t.3)

pub send-requires-clause-linked : goal.send-requires-clause-linked
send-requires-clause-linked g c =
    let same = c.as_slice-entries.ensures ∙ c.journal.ensures.same in
    let h = grown c.args.core.now c.args.behind.now c.grow.new.self c.requires.sized c.as_slice-entries.result.now same c.in_ok-grow.ensures.sims c.in_ok-grow.ensures.own c.in_ok-grow.ensures.grown in
    let t = c.in-Some.ensures.item in
    let R = c.requires.due.0 in
    let d = c.requires.due.1 in
    due_linked R c.args.core.now c.args.crew.now c.args.sim c.args.gone c.args.id c.requires.there d t.0 t.1 c.in-Some.item.now
    (subst (IsFirstOwn c.args.core.now.entries c.args.sim.0 R.from) t.2 (c.next-next.ensures c.args.core.now.entries R.from h.indexed d.counted))
    (ap (λ (l : List Entry). slice_get l t.0) (sym same) ∙ t.3)

pub overflow_add-gone : goal.overflow_add-gone
overflow_add-gone g c = let few = gone_low c.requires.due.0 c.args.core.now c.args.crew.now c.args.sim.0 c.args.gone c.args.id c.requires.due.1 in omega (arith, few)

pub overflow_add-gone-in-Ok : goal.overflow_add-gone-in-Ok
overflow_add-gone-in-Ok g c = let few = gone_low c.requires.due.0 c.args.core.now c.args.crew.now c.args.sim.0 c.args.gone c.args.id c.requires.due.1 in omega (arith, few)

pub id_behind-requires : goal.id_behind-requires
id_behind-requires g c = let few = id_low c.requires.due.0 c.args.core.now c.args.crew.now c.args.sim.0 c.args.gone c.args.id c.requires.due.1 c.requires.there in omega (arith, few)

pub standing_at-requires-in-Ok : goal.standing_at-requires-in-Ok
standing_at-requires-in-Ok g c = let few = gone_low c.requires.due.0 c.args.core.now c.args.crew.now c.args.sim.0 c.args.gone c.args.id c.requires.due.1 in omega (arith, few)

pub returns-in-Ok-clause-passed : goal.returns-in-Ok-clause-passed
returns-in-Ok-clause-passed g c =
    let same = c.as_slice-entries.ensures ∙ c.journal.ensures.same in
    let h = grown c.args.core.now c.args.behind.now c.grow.new.self c.requires.sized c.as_slice-entries.result.now same c.in_ok-grow.ensures.sims c.in_ok-grow.ensures.own c.in_ok-grow.ensures.grown in
    let t = c.in-Some.ensures.item in
    passes_sent c.args.core.now c.args.crew.now c.args.sim c.args.gone c.args.id c.requires.there t.0 t.1 c.in-Some.item.now
    (λ from counted. subst (IsFirstOwn c.args.core.now.entries c.args.sim.0 from) t.2 (c.next-next.ensures c.args.core.now.entries from h.indexed counted))
    (ap (λ (l : List Entry). slice_get l t.0) (sym same) ∙ t.3)
    c.replies_are_kinds.ensures c.send.new.self c.in-Ok.ensures.ok c.next-later.result c.set-in-Ok.new.self (λ from counted. c.next-later.ensures c.args.core.now.entries from h.indexed counted)
    (set_stands c.args.core.now c.args.behind.now c.grow.new.self c.requires.sized h c.set-in-Ok.new.self c.args.sim.0 c.standing_at-in-Ok.result c.set-in-Ok.ensures.sims c.set-in-Ok.ensures.index c.requires.there
    ∙ ap Some (c.standing_at-in-Ok.ensures ∙ ap (standing_at c.next-later.result (c.args.gone + 1)) c.id_behind.ensures))

pub returns-in-Ok-clause-sized : goal.returns-in-Ok-clause-sized
returns-in-Ok-clause-sized g c =
    let h = grown c.args.core.now c.args.behind.now c.grow.new.self c.requires.sized c.as_slice-entries.result.now (c.as_slice-entries.ensures ∙ c.journal.ensures.same) c.in_ok-grow.ensures.sims c.in_ok-grow.ensures.own c.in_ok-grow.ensures.grown in
    set_sized c.args.core.now c.args.behind.now c.grow.new.self c.requires.sized h c.set-in-Ok.new.self c.args.sim.0 c.standing_at-in-Ok.result c.set-in-Ok.ensures.sims c.set-in-Ok.ensures.index

pub returns-in-Ok-clause-others : goal.returns-in-Ok-clause-others
returns-in-Ok-clause-others g c =
    let h = grown c.args.core.now c.args.behind.now c.grow.new.self c.requires.sized c.as_slice-entries.result.now (c.as_slice-entries.ensures ∙ c.journal.ensures.same) c.in_ok-grow.ensures.sims c.in_ok-grow.ensures.own c.in_ok-grow.ensures.grown in
    set_others c.args.core.now c.args.behind.now c.grow.new.self c.requires.sized h c.set-in-Ok.new.self c.args.sim.0 c.standing_at-in-Ok.result c.set-in-Ok.ensures.sims c.set-in-Ok.ensures.index

pub returns-in-Err-clause-passed : goal.returns-in-Err-clause-passed
returns-in-Err-clause-passed g c =
    let same = c.as_slice-entries.ensures ∙ c.journal.ensures.same in
    let h = grown c.args.core.now c.args.behind.now c.grow.new.self c.requires.sized c.as_slice-entries.result.now same c.in_ok-grow.ensures.sims c.in_ok-grow.ensures.own c.in_ok-grow.ensures.grown in
    let t = c.in-Some.ensures.item in
    subst (λ (o : Outcome). PassesAs (Err (ends.Outcome o)) c.args.core.now c.args.sim.0 c.args.gone c.args.id c.args.crew.now c.send.new.self c.grow.new.self) (sym c.from.ensures)
    (subst (λ (D : CrewSeen). PassesAs (Err (ends.Outcome (outcome_of c.in-Err.halt))) c.args.core.now c.args.sim.0 c.args.gone c.args.id c.args.crew.now D c.grow.new.self) (sym c.in-Err.ensures.err)
    (passes_not c.args.core.now c.args.crew.now c.args.sim c.args.gone c.args.id c.requires.there t.0 t.1 c.in-Some.item.now
    (λ from counted. subst (IsFirstOwn c.args.core.now.entries c.args.sim.0 from) t.2 (c.next-next.ensures c.args.core.now.entries from h.indexed counted))
    (ap (λ (l : List Entry). slice_get l t.0) (sym same) ∙ t.3) c.in-Err.halt c.grow.new.self (c.in-Err.ensures.cause c.in-Err.halt refl)))
