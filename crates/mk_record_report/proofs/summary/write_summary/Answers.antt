-- Answers to the goals of `summary::write_summary` that the prover leaves.
use Rattle.std.proofs.Common.{◌≡◌, ℕ, ◌<◌, ◌≤◌, ◌+◌, ◌++◌, List, get_or, take, ap, sym, ◌∙◌, subst, length, arith, rules}
use Rattle.std.proofs.lemmas.List.Sums.{sum_by_more}
use Rattle.mk_plan.specs.declared.PlanSim.{PlanSim}
use Rattle.mk_plan.specs.declared.Entry.{Entry}
use Rattle.mk_plan.specs.Journals.{sent}
use Rattle.mk_plan.specs.Report.{summary, counts}
use Rattle.mk_record_report.specs.declared.tallies.Tally.{Tally}
use Rattle.mk_record_report.specs.inner.Summary.{IsTally, all_values, steps_at}
use Rattle.mk_record_report.proofs.Summing.{counts_push, stepped_push, valued_push, last_here, last_before, summary_is}
use Rattle.mk_record_report.proofs.summary.write_summary.Goals.{then-tally-gt0, else-tally-gt0}
use Rattle.mk_record_report.proofs.summary.write_summary.Goals as goal
use Rattle.mk_base.proofs.Items.{get_at_place}

pub loop-place-preserved : goal.loop-place-preserved
loop-place-preserved c =
    let sims : List PlanSim = c.args.plan.now.sims in
    let J : List Entry = c.as_slice-entries.result.now in
    let k : ℕ = c.loop-place.place in
    let s : PlanSim = c.sim-item.result in
    let t : Tally = c.index-tally.result.now in
    let ts : List Tally = c.in_ok-tallies.tallies.items in
    let low : k < length sims = subst (λ (l : List PlanSim). k < length l) c.as_slice-sim-items.ensures c.loop-place-test.true in
    let is : s ≡ get_or sims k s = c.sim-item.is ∙ ap (λ (l : List PlanSim). get_or l k s) c.as_slice-sim-items.ensures in
    let inside : k < length ts = subst (λ n. k < n) (sym c.loop-place.invariant.tallies.all) low in
    let tallied : IsTally t (sent J k) = c.loop-place.invariant.tallies.each k t (get_at_place ts k t inside c.index-tally.ensures) in
    record {
      same = c.loop-place.invariant.same;
      tallies = c.loop-place.invariant.tallies;
      within = c.loop-place.invariant.within;
      text = counts_push J sims k s low is t c.loop-place.out.items c.put_counts.new.out.items tallied c.loop-place.invariant.text
          (c.in_ok-put_counts.ensures ∙ ap (λ l. c.loop-place.out.items ++ (l ++ counts t.steps t.values)) c.bytes.ensures.same);
      steps = stepped_push J sims k s low is t c.loop-place.steps tallied c.loop-place.invariant.steps;
      small = search (rules, arith);
      values = valued_push J sims k s low is t c.loop-place.values tallied c.loop-place.invariant.values;
      bounded = ap (λ n. n + t.values) c.loop-place.invariant.bounded ∙ ap (λ (v : Tally). all_values (take k ts) + v.values) c.index-tally.ensures ∙ sym (sum_by_more (λ (v : Tally). v.values) ts k t inside);
      last = elim c.if-tally-gt0.branch [
        | then-tally-gt0 w ↦ ap (steps_at (sent J)) w.last-is ∙ last_here J sims k s low is t tallied w.if-tally-gt0.true
        | else-tally-gt0 w ↦ ap (steps_at (sent J)) w.last-is ∙ last_before J sims k s low is t c.loop-place.last tallied w.if-tally-gt0.false c.loop-place.invariant.last
      ];
    }

pub returns : goal.returns
returns c = subst (λ (l : List Entry). c.put_last.new.out.items ≡ summary c.args.plan.now (sent l)) c.as_slice-entries.ensures
    (summary_is c.args.plan.now c.as_slice-entries.result.now c.loop-place.out.items c.put_counts-2.new.out.items c.put_last.new.out.items c.loop-place.steps c.loop-place.values c.loop-place.place c.loop-place.last
    (subst (λ (l : List PlanSim). length l ≤ c.loop-place.place) c.as_slice-sim-items.ensures c.loop-place-test.false) c.loop-place.invariant.text c.loop-place.invariant.steps c.loop-place.invariant.values c.loop-place.invariant.last
    c.in_ok-put_counts-2.ensures c.in_ok-put_last.ensures)
