-- Answers to the goals of `outlets::outlets_of` that the prover leaves.
use Rattle.std.proofs.Common.{sym, subst, ap, length}
use Rattle.std.specs.List.Sorted.{IsNonDecreasingBy}
use Rattle.mk_buffers.specs.declared.outlets.Outlets.{Outlets}
use Rattle.mk_buffers.specs.inner.Building.{AreParts}
use Rattle.mk_buffers.proofs.Collecting.{beside, sims_rise}
use Rattle.mk_buffers.proofs.outlets.outlets_of.Goals as goal

pub parts_of-requires : goal.parts_of-requires
parts_of-requires c = subst (IsNonDecreasingBy (λ o. o.sim)) (sym c.as_slice.ensures.value) (sims_rise c.args.plan.now c.in_ok-made.made.all.items c.in_ok-made.ensures.2.sorted)

pub returns : goal.returns
returns c =
    let made = c.in_ok-made.ensures in
    let same = c.with_parts.ensures in (
      made.0,
      made.1,
      beside c.args.plan.now made.0 c.in_ok-made.made c.with_parts.result (ap (λ (o : Outlets). o.all) same) (ap (λ (o : Outlets). o.of_conn) same) (ap (λ (o : Outlets). o.of_entity) same) made.2,
      subst (λ (o : Outlets). AreParts (length c.args.plan.now.sims) o.all.items o.of_sim.items) (sym same) (subst (λ l. AreParts (length c.args.plan.now.sims) l c.in_ok-of_sim.of_sim.items) c.as_slice.ensures.value (subst (λ n. AreParts n c.as_slice.result.now c.in_ok-of_sim.of_sim.items) c.len.ensures c.in_ok-of_sim.ensures)),
    )
