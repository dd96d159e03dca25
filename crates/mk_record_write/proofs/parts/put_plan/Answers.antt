-- proofs/parts/put_plan/Answers.antt
use Rattle.std.proofs.Common.{◌++◌, codes, flat_map, ap, ◌∙◌}
use Rattle.mk_record_read.specs.Texts.{run_line, sim_line, model_line, entity_line, conn_line, async_line}
use Rattle.mk_record_write.proofs.Joining.{parts_in_a_row}
use Rattle.std.proofs.lemmas.Result.{on_ok_weaker}
use Rattle.mk_record_write.proofs.parts.put_plan.Goals as goal

pub returns-clause-written : goal.returns-clause-written
returns-clause-written c =
    let P = c.args.plan.now in
    on_ok_weaker c.put_ties.result (λ e. e ∙ ap (λ l. l ++ (flat_map conn_line P.conns ++ flat_map async_line P.asyncs))
    (c.in_ok-put_things.ensures.written ∙ ap (λ l. l ++ (flat_map sim_line P.sims ++ (flat_map model_line P.models ++ flat_map entity_line P.entities)))
    (c.in_ok-put_run.ensures ∙ ap (λ l. l ++ run_line P) c.in_ok-put.ensures))
    ∙ parts_in_a_row c.args.out.now.items (codes "mosaikrun 2\n") (run_line P) (flat_map sim_line P.sims) (flat_map model_line P.models) (flat_map entity_line P.entities) (flat_map conn_line P.conns) (flat_map async_line P.asyncs)) c.put_ties.ensures.written

pub returns-clause-utf8 : goal.returns-clause-utf8
returns-clause-utf8 c =
    let things = c.in_ok-put_things.ensures in
    on_ok_weaker c.put_ties.result (λ conns. record { sims = things.sims; models = things.models; entities = things.entities; conns = conns }) c.put_ties.ensures.utf8
