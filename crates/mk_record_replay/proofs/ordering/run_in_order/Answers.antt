-- proofs/ordering/run_in_order/Answers.antt
use Rattle.std.proofs.Common.{Option, subst, ◌∙◌}
use Rattle.mk_record_replay.specs.declared.replaying.ReplayEnd.{ReplayEnd}
use Rattle.mk_record_replay.specs.inner.Rounds.{RoundOf}
use Rattle.mk_record_replay.proofs.ordering.run_in_order.Goals as goal

pub giving-preserved : goal.giving-preserved
giving-preserved c =
    let moved = c.in_ok-end.ensures.moved c.in-None.is in record {
      going = (moved.going, moved.fit);
      plan = moved.plan ∙ c.giving.invariant.plan;
      between = λ A b. (subst (λ (end : Option ReplayEnd). RoundOf A c.args.order c.giving.core end c.round.new.core c.round.new.waiting.items c.round.new.number) c.in-None.is (c.in_ok-end.ensures.round A c.args.order (c.giving.invariant.between A b))).between;
    }
