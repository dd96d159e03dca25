-- Answers to the goals of `buffers::Buffers::give_to` that the prover leaves.
use Rattle.std.proofs.Common.{[], pos, Option, refl, sym, ap, subst, unwrap_or}
use Rattle.mk_base.specs.declared.tier.Tier.{Tier}
use Rattle.mk_base.specs.Tiers.{moment}
use Rattle.mk_plan.specs.declared.Input.{Input}
use Rattle.mk_plan.specs.Deliveries.{Timed}
use Rattle.mk_buffers.specs.declared.sets.Slot.{Slot}
use Rattle.mk_buffers.specs.Slots.{input_in}
use Rattle.mk_buffers.specs.inner.Slots.{HaveTaken}
use Rattle.mk_buffers_log.proofs.Places.{get_some}
use Rattle.mk_buffers.proofs.buffers.Buffers.give_to.Goals as goal

pub returns-clause-ok : goal.returns-clause-ok
returns-clause-ok c =
    let key : Input = record { eid = c.args.target.eid; attr = c.args.set.attr; source = c.args.set.source; value = [] } in
    let of_slot = subst (λ (i : Slot). HaveTaken c.of-mark.result (input_in i []) c.new.result c.index_mut.result.now c.take_in.new.self) c.new-fresh.ensures c.in_ok-take_in.ensures.ok in
    let of_value = subst (λ (t : Timed). HaveTaken c.of-mark.result key t c.index_mut.result.now c.take_in.new.self) c.new.ensures of_slot in
    record {
      before = c.index_mut.result.now;
      after = c.take_in.new.self;
      at_place = get_some c.args.self.now.sets.items c.args.target.sim c.index_mut.result.now c.requires.sets c.index_mut.ensures.value;
      sets = refl;
      taken = subst (λ (m : Tier). HaveTaken m key (record { at = c.args.at; value = c.args.set.value }) c.index_mut.result.now c.take_in.new.self) (sym (ap (λ (o : Option Tier). unwrap_or o (moment (pos 0))) c.of-mark.ensures)) of_value;
      outlets = refl;
      homes = refl;
      until = refl;
      marks = refl;
      inlets = refl;
      feeds = refl;
      next_marks = refl;
    }
