-- Answers to the goals of `report::write_report` that the prover leaves.
use Rattle.std.proofs.Common.{◌≡◌, ℕ, ◌<◌, ◌≤◌, List, get_or, ap, sym, ◌∙◌, subst, length, arith, rules}
use Rattle.mk_plan.specs.declared.PlanSim.{PlanSim}
use Rattle.mk_plan.specs.Journals.{sent}
use Rattle.mk_record_report.specs.inner.Parts.{IsPart}
use Rattle.mk_record_report.proofs.Texts.{text_push, steps_push, report_is}
use Rattle.mk_record_report.proofs.report.write_report.Goals as goal
use Rattle.mk_base.proofs.Items.{get_at_place}

pub loop-place-preserved : goal.loop-place-preserved
loop-place-preserved c =
    let sims : List PlanSim = c.args.plan.now.sims in
    let k : ℕ = c.loop-place.place in
    let low : k < length sims = subst (λ (l : List PlanSim). k < length l) c.as_slice-sim-items.ensures c.loop-place-test.true in
    let is : c.sim-item.result ≡ get_or sims k c.sim-item.result = c.sim-item.is ∙ ap (λ (l : List PlanSim). get_or l k c.sim-item.result) c.as_slice-sim-items.ensures in
    let inside : k < length c.in_ok-parts.parts.items = subst (λ n. k < n) (sym c.loop-place.invariant.parts.all) low in
    let first : IsPart c.index.result.now (sent c.args.journal.now.entries k) = c.loop-place.invariant.parts.each k c.index.result.now (get_at_place c.in_ok-parts.parts.items k c.index.result.now inside c.index.ensures) in
    let second : IsPart c.index-in-loop-place.result.now (sent c.args.journal.now.entries k) =
    c.loop-place.invariant.parts.each k c.index-in-loop-place.result.now (get_at_place c.in_ok-parts.parts.items k c.index-in-loop-place.result.now inside c.index-in-loop-place.ensures) in
    record {
      same = c.loop-place.invariant.same;
      parts = c.loop-place.invariant.parts;
      text = text_push c.args.journal.now.entries sims k c.sim-item.result low is c.index.result.now c.loop-place.out.items c.put_part.new.out.items first c.loop-place.invariant.text c.in_ok-put_part.ensures;
      steps = steps_push c.args.journal.now.entries sims k c.sim-item.result low is c.index-in-loop-place.result.now c.loop-place.total second c.loop-place.invariant.steps;
      small = search (rules, arith);
    }

pub returns : goal.returns
returns c = report_is c.args.plan.now c.args.journal.now.entries c.loop-place.out.items c.put_total.new.out.items c.loop-place.total c.loop-place.place (subst (λ (l : List PlanSim). length l ≤ c.loop-place.place) c.as_slice-sim-items.ensures c.loop-place-test.false) c.loop-place.invariant.text c.loop-place.invariant.steps c.in_ok-put_total.ensures
