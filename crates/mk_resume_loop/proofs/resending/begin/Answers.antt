-- Answers to the goals of `resending::begin` that the prover leaves.
use Rattle.std.proofs.Common.{◌≡◌, ◌<◌, ℕ, List, length, get_or, sym, ap, ◌∙◌, subst, refl, arith, Result, Ok, Err}
use Rattle.std.proofs.lemmas.Result.{err_from_is_err_and}
use Rattle.mk_local.specs.Registries.{rows_in}
use Rattle.mk_plan.specs.declared.Plan.{Plan}
use Rattle.mk_plan.specs.declared.PlanSim.{PlanSim}
use Rattle.mk_plan.specs.Plans.{sim_count}
use Rattle.mk_resume_loop.specs.declared.ending.ResumeEnd.{ResumeEnd}
use Rattle.mk_resume_loop.specs.inner.Turns.{BeginsAs, IsDue, PassesAs, Walk}
use Rattle.mk_resume_loop.proofs.FirstItems.{all_begun, due_first, id_of_sim, none_begun, not_begun, one_begun}
use Rattle.mk_resume_loop.proofs.resending.begin.Goals as goal

pub loop-sim-init : goal.loop-sim-init
loop-sim-init g c = record {
  known = c.requires.known;
  sized = c.requires.sized;
  still = record { places = refl; kinds = λ rows known. known };
  same_halt = refl;
  so_far = none_begun c.args.core.now c.args.crew.now c.args.behind.now;
}

pub go_on-requires-clause-there : goal.go_on-requires-clause-there
go_on-requires-clause-there g c = subst (λ (l : List PlanSim). c.loop-sim.sim < length l) (c.as_slice-sims.ensures ∙ ap (λ (P : Plan). P.sims) c.plan.ensures) c.loop-sim-test.true

pub go_on-requires-clause-due : goal.go_on-requires-clause-due
go_on-requires-clause-due g c =
    let t = c.requires.underway in
    let same : c.as_slice-sims.result.now ≡ c.args.core.now.plan.sims = c.as_slice-sims.ensures ∙ ap (λ (P : Plan). P.sims) c.plan.ensures in
    let id = id_of_sim c.args.core.now.plan c.loop-sim.sim c.index-sims-sim.result (subst (λ (l : List PlanSim). c.loop-sim.sim < length l) same c.loop-sim-test.true) (c.index-sims-sim.is ∙ ap (λ (l : List PlanSim). get_or l c.loop-sim.sim c.index-sims-sim.result) same) in
    subst (λ (n : ℕ). (R : Walk) × IsDue R c.args.core.now c.loop-sim.crew c.loop-sim.sim 0 n) (id ∙ ap (λ (x : PlanSim). x.first_id) c.index-sims-sim.is) (due_first c.args.core.now c.args.crew.now c.loop-sim.crew c.loop-sim.behind c.loop-sim.sim c.loop-sim.invariant.so_far t.0 t.1 t.2 t.3)

pub loop-sim-preserved : goal.loop-sim-preserved
loop-sim-preserved g c =
    let so_far = c.loop-sim.invariant in
    let now = c.in_ok-go_on.ensures in
    let same : c.as_slice-sims.result.now ≡ c.args.core.now.plan.sims = c.as_slice-sims.ensures ∙ ap (λ (P : Plan). P.sims) c.plan.ensures in
    let id = id_of_sim c.args.core.now.plan c.loop-sim.sim c.index-sims-sim.result (subst (λ (l : List PlanSim). c.loop-sim.sim < length l) same c.loop-sim-test.true) (c.index-sims-sim.is ∙ ap (λ (l : List PlanSim). get_or l c.loop-sim.sim c.index-sims-sim.result) same) in
    record {
      known = now.still.kinds (rows_in c.args.kinds.now) so_far.known;
      sized = now.sized;
      still = record { places = now.still.places ∙ so_far.still.places; kinds = λ rows known. now.still.kinds rows (so_far.still.kinds rows known) };
      same_halt = now.same_halt ∙ so_far.same_halt;
      so_far = one_begun c.args.core.now c.args.crew.now c.loop-sim.crew c.loop-sim.behind c.loop-sim.sim so_far.so_far c.go_on.new.crew c.go_on.new.behind
          (subst (λ (n : ℕ). PassesAs (Ok tt) c.args.core.now c.loop-sim.sim 0 n c.loop-sim.crew c.go_on.new.crew c.go_on.new.behind) (sym (id ∙ ap (λ (x : PlanSim). x.first_id) c.index-sims-sim.is)) now.passed) now.others;
    }

pub returns-in_err-go_on-clause-begun : goal.returns-in_err-go_on-clause-begun
returns-in_err-go_on-clause-begun g c =
    let so_far = c.loop-sim.invariant in
    let same : c.as_slice-sims.result.now ≡ c.args.core.now.plan.sims = c.as_slice-sims.ensures ∙ ap (λ (P : Plan). P.sims) c.plan.ensures in
    let id = id_of_sim c.args.core.now.plan c.loop-sim.sim c.index-sims-sim.result (subst (λ (l : List PlanSim). c.loop-sim.sim < length l) same c.loop-sim-test.true) (c.index-sims-sim.is ∙ ap (λ (l : List PlanSim). get_or l c.loop-sim.sim c.index-sims-sim.result) same) in
    let e = err_from_is_err_and c.from_residual.result c.from_residual.ensures.1 in
    subst (λ (r : Result (Unit {0}) ResumeEnd). BeginsAs r c.args.core.now c.args.crew.now c.go_on.new.crew c.go_on.new.behind) (sym (e.1 ∙ ap (λ (end : ResumeEnd). Err end) e.2))
    (not_begun c.args.core.now c.args.crew.now c.loop-sim.crew c.loop-sim.behind c.loop-sim.sim so_far.so_far c.go_on.new.crew c.go_on.new.behind c.in_err-go_on.field-0.0
    (subst (λ (n : ℕ). PassesAs (Err c.in_err-go_on.field-0.0) c.args.core.now c.loop-sim.sim 0 n c.loop-sim.crew c.go_on.new.crew c.go_on.new.behind) (sym (id ∙ ap (λ (x : PlanSim). x.first_id) c.index-sims-sim.is)) c.in_err-go_on.ensures.passed))

pub returns-clause-begun : goal.returns-clause-begun
returns-clause-begun g c =
    let same : length c.as_slice-sims.result.now ≡ sim_count c.args.core.now.plan = ap (λ (l : List PlanSim). length l) (c.as_slice-sims.ensures ∙ ap (λ (P : Plan). P.sims) c.plan.ensures) in
    let past = c.loop-sim-test.false in
    let end = c.loop-sim.auto.sim-end in
    all_begun c.args.core.now c.args.crew.now c.loop-sim.crew c.loop-sim.behind c.loop-sim.sim (omega (arith, same, past, end)) c.loop-sim.invariant.sized c.loop-sim.invariant.so_far
