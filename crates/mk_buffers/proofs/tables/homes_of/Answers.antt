-- Answers to the goals of `tables::homes_of` that the prover leaves.
use Rattle.std.proofs.Common.{[], arith, sym, ap, ◌∙◌, Option, option_map, unwrap_or}
use Rattle.mk_plan.specs.declared.PlanEntity.{PlanEntity}
use Rattle.mk_buffers.proofs.Founding.{homes_more}
use Rattle.mk_buffers.proofs.tables.homes_of.Goals as goal
use Rattle.mk_base.proofs.Items.{get_default}

pub loop-place-preserved : goal.loop-place-preserved
loop-place-preserved c = homes_more c.args.plan.now c.args.outlets.now c.loop-place.place c.loop-place.homes.items c.push.new.self.items _ c.loop-place.invariant
    (get_default c.args.outlets.now c.loop-place.place (record { first = 0; end = 0 }) (omega (arith, c.loop-place-test.true, c.len-place-end.ensures, c.requires.outlets)), c.owner.ensures, c.in_ok-copy.ensures ∙ sym (ap (λ (o : Option PlanEntity). unwrap_or (option_map (λ n. n.eid) o) []) c.at.ensures)) c.in_ok-push.ensures.items
