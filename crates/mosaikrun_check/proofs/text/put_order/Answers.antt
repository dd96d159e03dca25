-- Answers to the goals of `text::put_order` that the prover leaves.
use Rattle.std.proofs.Common.{◌≡◌, ℕ, List, ◌∷◌, [], ◌++◌, ◌∙◌, ap, sym, append_assoc}
use Rattle.mk_scenario.specs.declared.parts.SimPart.{SimPart}
use Rattle.mk_scenario.specs.Ids.{id_of_sim}
use Rattle.mosaikrun_check.specs.CheckText.{ids_by_rank, sim_of_rank}
use Rattle.mosaikrun_check.proofs.Ranges.{joined_one_more}
use Rattle.mosaikrun_check.proofs.text.put_order.Goals as goal

pub loop-rank-preserved : goal.loop-rank-preserved
loop-rank-preserved c =
    let S = c.args.scenario.now in
    let ranks = c.args.ranks.now in
    let before = c.args.out.now.items in
    let more = joined_one_more (λ r. 32 ∷ id_of_sim S.sims (sim_of_rank ranks r)) c.loop-rank.rank in
    let id : c.id_of_sim.result.now ≡ id_of_sim S.sims (sim_of_rank ranks c.loop-rank.rank) = c.id_of_sim.ensures ∙ ap (λ (l : List SimPart). id_of_sim l c.sim_of_rank.result) c.as_slice.ensures ∙ ap (id_of_sim S.sims) c.sim_of_rank.ensures in
    let space = c.in_ok-put.ensures in
    c.in_ok-put-2.ensures
    ∙ ap (λ (text : List ℕ). c.put.new.out.items ++ text) id
    ∙ ap (λ (text : List ℕ). text ++ id_of_sim S.sims (sim_of_rank ranks c.loop-rank.rank)) (space ∙ ap (λ (text : List ℕ). text ++ 32 ∷ []) c.loop-rank.invariant)
    ∙ append_assoc (before ++ ids_by_rank S ranks c.loop-rank.rank) (32 ∷ []) (id_of_sim S.sims (sim_of_rank ranks c.loop-rank.rank))
    ∙ append_assoc before (ids_by_rank S ranks c.loop-rank.rank) (32 ∷ id_of_sim S.sims (sim_of_rank ranks c.loop-rank.rank))
    ∙ ap (λ (text : List ℕ). before ++ text) (sym more)
