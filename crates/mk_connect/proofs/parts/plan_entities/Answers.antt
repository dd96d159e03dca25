-- Answers to the goals of `parts::plan_entities` that the prover leaves.
use Rattle.std.proofs.Common.{ap, sym, length, ◌∙◌, Some}
use Rattle.std.specs.Prelude.{slice_get}
use Rattle.std.proofs.lemmas.Option.{slice_get-get_or}
use Rattle.mk_connect.specs.Made.{plan_entity}
use Rattle.mk_connect.specs.Related.{pairs_of}
use Rattle.mk_connect.proofs.ByPlaces.{one_more}
use Rattle.mk_connect.proofs.parts.plan_entities.Goals as goal

pub plan_entity-requires-clause-there : goal.plan_entity-requires-clause-there
plan_entity-requires-clause-there c = ap (λ l. slice_get l c.loop-i.i) (sym c.as_slice-entity-items.ensures.same) ∙ slice_get-get_or c.as_slice-entity-items.result.now c.loop-i.i c.entity-item.result c.loop-i-test.true ∙ ap Some (sym c.entity-item.is)

pub loop-i-preserved : goal.loop-i-preserved
loop-i-preserved c =
    let es = c.args.study.now.entities.now in
    one_more (plan_entity c.args.study.now.models.now (length es) (pairs_of es c.args.blocks.now)) c.as_slice-entity-items.result.now c.loop-i.i c.entity-item.result c.loop-i-test.true c.entity-item.is c.loop-i.entities c.push.new.self c.in_ok-plan_entity.field-0
    c.loop-i.invariant c.in_ok-plan_entity.ensures c.in_ok-push.ensures.ok
