-- Answers to the goals of `handshake::ranks_of` that the prover leaves.
use Rattle.std.proofs.Common.{◌≡◌, ℕ, List, ◌∙◌, subst}
use Rattle.mk_cycles.specs.Edges.{has_edge}
use Rattle.mk_cycles.specs.Orders.{IsRanking}
use Rattle.mk_cycles.specs.Outcomes.{IsEachOnce, IsRising}
use Rattle.mk_cycles.specs.declared.ranking.Edge.{Edge}
use Rattle.mk_connect.specs.Edges.{edges_of}
use Rattle.mk_setup_trials.proofs.handshake.ranks_of.Goals as goal

pub returns-in-Ok : goal.returns-in-Ok
returns-in-Ok c =
    let S = c.args.scenario.now in
    let ranks = c.in-Ok.ranks in
    let edges : c.as_slice.result.now ≡ edges_of S = c.as_slice.ensures ∙ c.in_ok-edges.ensures.edges in
    record {
      ranked = record {
        ranking =
            subst (λ (n : ℕ). IsRanking (has_edge (edges_of S)) n ranks) c.len.ensures
            (subst (λ (es : List Edge). IsRanking (has_edge es) c.len.result ranks) edges c.in-Ok.ensures.ranking);
        each_once = subst (λ (n : ℕ). IsEachOnce n ranks) c.len.ensures c.in-Ok.ensures.each_once;
        rising = subst (λ (es : List Edge). IsRising es ranks) edges c.in-Ok.ensures.rising;
      };
    }
