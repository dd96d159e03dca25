-- Answers to the goals of `checking::ranked` that the prover leaves.
use Rattle.std.proofs.Common.{◌≡◌, ℕ, List, ◌∙◌, ap, inl, inr, subst}
use Rattle.mk_cycles.specs.Cycles.{IsCycle}
use Rattle.mk_cycles.specs.Edges.{has_edge}
use Rattle.mk_cycles.specs.Outcomes.{CycleOf, numbers}
use Rattle.mk_cycles.specs.declared.ranking.Edge.{Edge}
use Rattle.mk_cycles.specs.declared.ranking.CycleFault.{CycleFault}
use Rattle.mk_connect.specs.Edges.{edges_of}
use Rattle.mosaikrun_endings.specs.declared.ending.Ending.TheVariants.{Cycle}
use Rattle.mosaikrun_check.proofs.OfEdges.{can_run, ranked_by, unprepared}
use Rattle.mosaikrun_check.proofs.checking.ranked.Goals as goal

pub returns-in-Ok-prepared-clause-runnable : goal.returns-in-Ok-prepared-clause-runnable
returns-in-Ok-prepared-clause-runnable c =
    let S = c.args.scenario.now in
    let edges : c.as_slice.result.now ≡ edges_of S = c.as_slice.ensures ∙ c.in_ok-edges.ensures.edges in
    can_run c.args.kinds.now S c.in-Ok.ranks c.as_slice.result.now c.len.result edges c.len.ensures c.in-Ok.ensures.ranking c.in-Ok.ensures.each_once c.in-Ok.ensures.rising c.in-Ok-prepared.ensures.prepared

pub returns-in-Ok-clause-unrunnable : goal.returns-in-Ok-clause-unrunnable
returns-in-Ok-clause-unrunnable c =
    let S = c.args.scenario.now in
    let edges : c.as_slice.result.now ≡ edges_of S = c.as_slice.ensures ∙ c.in_ok-edges.ensures.edges in
    unprepared c.args.kinds.now S c.in-Ok.ranks c.in-Err.ending (ranked_by S c.in-Ok.ranks c.as_slice.result.now c.len.result edges c.len.ensures c.in-Ok.ensures.ranking) c.in-Err.ensures.unprepared

pub returns-in-Err-Cycle-clause-unrunnable : goal.returns-in-Err-Cycle-clause-unrunnable
returns-in-Err-Cycle-clause-unrunnable c =
    let S = c.args.scenario.now in
    let walk = c.in-Err-Cycle.walk in
    let edges : c.as_slice.result.now ≡ edges_of S = c.as_slice.ensures ∙ c.in_ok-edges.ensures.edges in
    let cycle = subst (λ (f : CycleFault). CycleOf c.as_slice.result.now c.len.result f) c.in-Err-Cycle.field-0-is c.in-Err-Cycle.ensures.cycle in
    inr (inl (record {
      walk = walk;
      cycle =
          subst (λ (n : ℕ). IsCycle (has_edge (edges_of S)) n (numbers walk)) c.len.ensures
          (subst (λ (es : List Edge). IsCycle (has_edge es) c.len.result (numbers walk)) edges cycle);
      is = ap Cycle c.in_ok-ids_of-in-Err-Cycle.ensures;
    }))
